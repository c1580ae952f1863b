-- A source that moved on.
use Rattle.std.proofs.Common.{◌≡◌, ℕ, ◌+◌, ◌≤◌, List, ◌++◌, length, take, drop, ap, sym, ◌∙◌, arith}
use Rattle.std.proofs.lemmas.List.{take-append-drop, drop-drop, length-take-le, append_assoc}
use Rattle.std.proofs.Common.{length-append}
use Rattle.commonware_base.specs.declared.codec.source.Source.{Source}
use Rattle.commonware_base.specs.Source.{Consumes, rest_of, position_of, bytes_of}

-- after an advance
pub consumes_front : (old new : Source) (count : ℕ) (text : List ℕ) → bytes_of new ≡ bytes_of old → position_of new ≡ position_of old + count → count ≤ length (rest_of old) → take count (rest_of old) ≡ text → Consumes old new text
consumes_front old new count text b p h e =
    let n : length text ≡ count = ap length (sym e) ∙ length-take-le count (rest_of old) h in
    let r : rest_of new ≡ drop count (rest_of old) = ap (λ i. drop i new.bytes.now) p ∙ ap (drop (old.position + count)) b ∙ sym (drop-drop count old.position old.bytes.now) in
    record {
      bytes = b;
      position = p ∙ ap (λ k. position_of old + k) (sym n);
      rest = sym (take-append-drop count (rest_of old)) ∙ ap (λ t. t ++ drop count (rest_of old)) e ∙ ap (λ t. text ++ t) (sym r);
    }

-- one reading after another
pub consumes_both : (a b c : Source) (x y : List ℕ) → Consumes a b x → Consumes b c y → Consumes a c (x ++ y)
consumes_both a b c x y p q = record {
  bytes = q.bytes ∙ p.bytes;
  position = let n = length-append x y in omega (arith, p.position, q.position);
  rest = p.rest ∙ ap (λ t. x ++ t) q.rest ∙ sym (append_assoc x y (rest_of c));
}
