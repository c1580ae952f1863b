-- The arguments that a program gets, and the words that follow the first of them.
use Rattle.std.specs.Prelude.{◌≡◌, ℕ, List, String, Result, IsErrAnd, IsOkAnd, drop, map, string_bytes}
use Rattle.std.specs.IoError.{error_kind}
use Rattle.std.specs.Iterator.{Drains}
use Rattle.std.specs.Vec.Iter.{into_iter_steps}
use Rattle.std.specs.declared.io.Error.{Error}
use Rattle.std.specs.declared.io.ErrorKind.TheVariants.{InvalidData}
use Rattle.std.specs.declared.vec.IntoIter.{IntoIter}

-- the arguments were taken, and they are these strings
abbrev pub AreArguments : {A E : Type 0} → Result (IntoIter (String A) A) E → List (String A) → Type 0
AreArguments taken texts = IsOkAnd taken (λ arguments. Drains into_iter_steps arguments texts)

-- the arguments are some strings, of which the first is the program's name: the words follow it
abbrev pub AreWords : {A : Type 0} → IntoIter (String A) A → List (List ℕ) → Type 0
AreWords {A} arguments words =
    (texts : List (String A)) × Drains into_iter_steps arguments texts × (words ≡ map string_bytes (drop 1 texts))

-- the arguments were taken, and P holds of the words
abbrev pub HasWords : {A E : Type 0} → Result (IntoIter (String A) A) E → (List (List ℕ) → Type 0) → Type 0
HasWords taken P = IsOkAnd taken (λ arguments. (words : List (List ℕ)) × AreWords arguments words × P words)

-- the arguments are refused as invalid data: one of them is no UTF-8 text
abbrev pub AreNotUnicode : {T : Type 0} → Result T Error → Type 0
AreNotUnicode taken = IsErrAnd taken (λ error. error_kind error ≡ InvalidData)
