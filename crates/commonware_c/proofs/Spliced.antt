-- Bytes that are written to a room one after another.
use Rattle.std.proofs.Common.{◌≡◌, ◌∙◌, ℕ, zero, suc, ◌+◌, ◌≤◌, ◌<◌, List, [], ◌∷◌, ◌++◌, length, take, drop, slice_set, refl, arith, ap, sym, length-append}
use Rattle.std.proofs.Math.Seq.{drop-append-add, take-append_seam}
use Rattle.std.proofs.lemmas.List.{append_assoc, drop-drop, length-drop, length-take-le, take-append-drop}
use Rattle.commonware_c.specs.Splices.{spliced}

-- no bytes
pub spliced_none : (at : ℕ) (room : List ℕ) → spliced at [] room ≡ room
spliced_none at room = ap (λ n. take at room ++ drop n room) (omega arith) ∙ take-append-drop at room

-- one byte
pub spliced_one : (at : ℕ) (room : List ℕ) (b : ℕ) → at < length room → slice_set room at b ≡ spliced at (b ∷ []) room
spliced_one at [] b h = absurd (omega (arith, h))
spliced_one zero (x ∷ room) b h = refl
spliced_one (suc at) (x ∷ room) b h =
    let next : suc at + 1 ≡ suc (at + 1) = omega arith in
    ap (λ t. x ∷ t) (spliced_one at room b (omega (arith, h)))
    ∙ ap (λ n. x ∷ (take at room ++ (b ∷ drop n (x ∷ room)))) (sym next)

module _ (at : ℕ) (first : List ℕ) (room : List ℕ) (enough : at + length first ≤ length room) where
  -- what is there up to the end of the first bytes, and after it
  abbrev front : List ℕ
  front = take at room ++ first

  front_length : length front ≡ at + length first
  front_length =
      let n = length-append (take at room) first in
      let m = length-take-le at room (omega (arith, enough)) in
      omega (arith, n, m)

  abbrev back : List ℕ
  back = drop (at + length first) room

  parts : spliced at first room ≡ front ++ back
  parts = sym (append_assoc (take at room) first back)

  -- the room has its length
  spliced_length : length (spliced at first room) ≡ length room
  spliced_length =
      let n = length-append front back in
      let m = length-drop (at + length first) room in
      ap length parts ∙ omega (arith, n, m, front_length, enough)

  -- more bytes after the first
  spliced_more : (more : List ℕ) → spliced (at + length first) more (spliced at first room) ≡ spliced at (first ++ more) room
  spliced_more more =
      let before : take (at + length first) (spliced at first room) ≡ front =
      ap (λ n. take n (spliced at first room)) (sym front_length) ∙ ap (take (length front)) parts ∙ take-append_seam front back in
      let after : drop (at + length first + length more) (spliced at first room) ≡ drop (at + length (first ++ more)) room =
      let n = length-append first more in
      ap (λ n. drop (n + length more) (spliced at first room)) (sym front_length) ∙ ap (drop (length front + length more)) parts
      ∙ drop-append-add front back (length more) ∙ drop-drop (length more) (at + length first) room
      ∙ ap (λ n. drop n room) (omega (arith, n)) in
      ap (λ t. t ++ (more ++ drop (at + length first + length more) (spliced at first room))) before
      ∙ ap (λ t. front ++ (more ++ t)) after
      ∙ append_assoc (take at room) first (more ++ drop (at + length (first ++ more)) room)
      ∙ ap (λ t. take at room ++ t) (sym (append_assoc first more (drop (at + length (first ++ more)) room)))

-- the same, where the place and the room are told by equations
pub spliced_on : (at next : ℕ) (first more out room : List ℕ) → at + length first ≤ length room → next ≡ at + length first
    → out ≡ spliced at first room → spliced next more out ≡ spliced at (first ++ more) room
spliced_on at next first more out room enough place written =
    ap (λ n. spliced n more out) place ∙ ap (spliced (at + length first) more) written ∙ spliced_more at first room enough more

-- and the room has its length
pub length_on : (at : ℕ) (first out room : List ℕ) → at + length first ≤ length room → out ≡ spliced at first room
    → length out ≡ length room
length_on at first out room enough written = ap length written ∙ spliced_length at first room enough
