-- What is said by way of a room, one after another.
use Rattle.std.proofs.Common.{◌≡◌, ℕ, ◌+◌, ◌<◌, List, [], ◌∷◌, ◌++◌, Option, length, take, get_or, refl, ap, subst, sym, ◌∙◌, append_assoc, append-nil}
use Rattle.std.specs.Prelude.{Err, IfErr, Ok, OnOk, Result}
use Rattle.std.specs.Io.KnownBytes.{Appends}
use Rattle.std.specs.List.{flat_map}
use Rattle.std.proofs.lemmas.Grind.{flat_map-append}
use Rattle.std.proofs.lemmas.List.{take_more}
use Rattle.std.proofs.KnownBytes.{Appends-nil, Appends-trans}
use Rattle.judge_core.specs.Said.{Says, line_text, part_text, parts_text}
use Rattle.judge_core.specs.declared.report.Part.{Part}

-- what follows where a result is there
pub on_ok : {X E : Type 0} (r : Result X E) (P Q : Type 0) → (P → Q) → OnOk r P → OnOk r Q
on_ok (Ok x) P Q step h = step h
on_ok (Err e) P Q step h = tt

-- what follows of an error
pub if_err_so : {X E : Type 0} (P Q : E → Type 0) (r : Result X E) → ((e : E) → P e → Q e) → IfErr r P → IfErr r Q
if_err_so P Q (Ok x) step h = tt
if_err_so P Q (Err e) step h = step e h

-- nothing is said
pub says_nothing : (out : Option (List ℕ)) (room : List ℕ) → Says out out room room []
says_nothing out room = ([], append-nil room, Appends-nil out)

-- one after another
pub says_on : (a b c : Option (List ℕ)) (old mid new x y : List ℕ) → Says a b old mid x → Says b c mid new y → Says a c old new (x ++ y)
says_on a b c old mid new x y (v, e, p) (w, f, q) = (
  v ++ w,
  sym (append_assoc old x y) ∙ ap (λ u. u ++ y) e ∙ append_assoc v mid y ∙ ap (λ u. v ++ u) f ∙ sym (append_assoc v w new),
  Appends-trans a b c v w p q,
)

-- the room was written, and then what didn't fit
pub says_past : (a b c : Option (List ℕ)) (room x : List ℕ) → Appends a b room → Appends b c x → Says a c room [] x
says_past a b c room x p q = (room ++ x, sym (append-nil (room ++ x)), Appends-trans a b c room x p q)

-- the room is written in the end
pub says_all : (a b c : Option (List ℕ)) (room x : List ℕ) → Says a b [] room x → Appends b c room → Appends a c x
says_all a b c room x (v, e, p) q = subst (Appends a c) (sym e) (Appends-trans a b c v room p q)

-- one element more
pub flat_more : {X : Type 0} (f : X → List ℕ) (xs : List X) (i : ℕ) (d : X) → i < length xs → flat_map f (take (i + 1) xs) ≡ flat_map f (take i xs) ++ f (get_or xs i d)
flat_more f xs i d h =
    ap (flat_map f) (take_more xs i d h) ∙ flat_map-append f (take i xs) (get_or xs i d ∷ []) ∙ ap (λ u. flat_map f (take i xs) ++ u) (append-nil (f (get_or xs i d)))

-- what one element more says
pub says_more : {X : Type 0} (f : X → List ℕ) (xs : List X) (i : ℕ) (d : X) (a b c : Option (List ℕ)) (old mid new x : List ℕ) → i < length xs → x ≡ f (get_or xs i d) → Says a b old mid (flat_map f (take i xs)) → Says b c mid new x
    → Says a c old new (flat_map f (take (i + 1) xs))
says_more f xs i d a b c old mid new x h is before more =
    subst (Says a c old new) (ap (λ u. flat_map f (take i xs) ++ u) is ∙ sym (flat_more f xs i d h)) (says_on a b c old mid new (flat_map f (take i xs)) x before more)

-- a line is its parts, and then its line feed
pub line_split : (parts : List Part) → line_text parts ≡ parts_text parts ++ 10 ∷ []
line_split [] = refl
line_split (part ∷ rest) =
    ap (λ u. part_text part ++ u) (line_split rest) ∙ sym (append_assoc (part_text part) (parts_text rest) (10 ∷ []))
