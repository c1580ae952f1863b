-- A message with its namespace: no other pair has the same bytes.
use Rattle.std.proofs.Common.{◌≡◌, ℕ, ◌<◌, ◌^◌, List, ◌++◌, length, take, drop, ap, sym, ◌∙◌}
use Rattle.std.proofs.lemmas.List.{append_assoc}
use Rattle.std.proofs.Math.Seq.{drop-append_seam, take-append_seam}
use Rattle.commonware_base.specs.Unions.{union_text}
use Rattle.commonware_base.specs.Varint.{varint}
use Rattle.commonware_base.specs.laws.VarintLaws.{varint_split}

-- The lengths agree, and so do the parts.
pub union_only : (a b x y : List ℕ) → length a < 2 ^ 32 → length b < 2 ^ 32 → union_text a x ≡ union_text b y → (a ≡ b) × (x ≡ y)
union_only a b x y p q e =
    let s = varint_split (length a) (length b) (a ++ x) (b ++ y) p q (sym (append_assoc (varint (length a)) a x) ∙ e ∙ append_assoc (varint (length b)) b y) in
    let cut : take (length a) (b ++ y) ≡ take (length b) (b ++ y) = ap (λ k. take k (b ++ y)) s.0 in
    let left : drop (length a) (b ++ y) ≡ drop (length b) (b ++ y) = ap (λ k. drop k (b ++ y)) s.0 in
    (sym (take-append_seam a x) ∙ ap (take (length a)) s.1 ∙ cut ∙ take-append_seam b y, sym (drop-append_seam a x) ∙ ap (drop (length a)) s.1 ∙ left ∙ drop-append_seam b y)
