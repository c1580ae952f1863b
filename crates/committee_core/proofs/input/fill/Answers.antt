use Rattle.std.proofs.Common.{◌≡◌, ℕ, ◌+◌, ◌-◌, ◌≤◌, List, ◌++◌, length, take, arith, rules, subst, sym, ap, ◌∙◌}
use Rattle.std.specs.Io.KnownBytes.{Consumes}
use Rattle.std.proofs.KnownBytes.{Consumes-trans}
use Rattle.std.proofs.Math.Seq.{take-append-add}
use Rattle.std.proofs.lemmas.List.{length-take-le, take-append-le}
use Rattle.std.proofs.lemmas.Slice.{overwrites}
use borrow.Rule.Slice.PartMut.{put_mid, post_of}
use Rattle.committee_core.proofs.input.fill.Goals as goal

-- n more bytes are in the room
stand : (room part : List ℕ) (kept k n : ℕ) → kept ≤ length room → n ≤ length part → take kept room ++ take n part ≡ take (kept + n) (put_mid kept k room part)
stand room part kept k n h q =
    let all = part ++ post_of kept k room in
    let long = take-append-add (take kept room) all n in
    let to = length-take-le kept room h in
    ap (λ t. take kept room ++ t) (sym (take-append-le n part (post_of kept k room) q)) ∙ sym long ∙ ap (λ i. take (i + n) (take kept room ++ all)) to

-- the room is as long as it was
as_long : (room part : List ℕ) (kept k : ℕ) → kept + k ≡ length room → length part ≡ k → length (put_mid kept k room part) ≡ length room
as_long room part kept k h q = search (rules, overwrites)

pub loop-kept-preserved : goal.loop-kept-preserved
loop-kept-preserved g c =
    let (sound, within, same, read) = c.loop-kept.invariant in
    let room = c.loop-kept.room in
    let kept = c.loop-kept.kept in
    let part = c.read.new.buf in
    let n = c.in-Ok.n in
    let k = length room - kept in
    let len : length (put_mid kept k room part) ≡ length room = as_long room part kept k (omega arith) (omega (arith, c.read.auto.buf)) in (
      grind arith,
      omega (arith, len, c.in-Ok.ensures.bound.0, c.read.auto.buf),
      len ∙ same,
      subst (Consumes _ _) (stand room part kept k n within c.in-Ok.ensures.bound.0) (Consumes-trans _ _ _ (take kept room) (take n part) read c.in-Ok.ensures.bytes.0),
    )
