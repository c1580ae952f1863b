-- The arguments that were taken, and the words after the first of them.
use Rattle.std.proofs.Common.{◌≡◌, List, String, Result, Ok, Err, ℕ, IsOkAnd, ap, drop, map, string_bytes, sym, subst}
use Rattle.std.specs.Iterator.{Drains, DrainsIf}
use Rattle.std.specs.Vec.Iter.{into_iter_steps}
use Rattle.std.specs.declared.vec.IntoIter.{IntoIter}
use Rattle.program_io.specs.Arguments.{HasWords}

-- what was collected are the items up to the end
pub collected : {S X : Type 0} (steps : _) (s : S) (xs items : List X) → DrainsIf steps (Unit {0}) s xs → items ≡ xs → Drains steps s items
collected steps s xs items (t, given, ends) e =
    let (u, ended) = ends tt in
    subst (Drains steps s) (sym e) (u, (t, given, ended))

-- what holds of the value holds of the result that is that value
pub ok_along : {T E : Type 0} (r : Result T E) (x : T) (P : T → Type 0) → r ≡ Ok x → P x → IsOkAnd r P
ok_along r x P e p = subst (λ q. IsOkAnd q P) (sym e) p

-- the words are what follows the first of the arguments
pub has_words : {A E : Type 0} (r : Result (IntoIter (String A) A) E) (texts words : List (String A)) (P : List (List ℕ) → Type 0) → IsOkAnd r (λ arguments. Drains into_iter_steps arguments texts) → words ≡ drop 1 texts → P (map string_bytes words) → HasWords r P
has_words (Ok arguments) texts words P given e p = (map string_bytes words, (texts, given, ap (map string_bytes) e), p)
has_words (Err error) texts words P given e p = absurd given
