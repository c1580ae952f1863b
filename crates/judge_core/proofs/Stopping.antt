-- What holds where a run stops early.
use Rattle.std.proofs.Common.{◌≡◌, ◌≢◌, ℕ, List, [], Bool, Option, Some, None, refl, sym, ◌∙◌}
use Rattle.std.specs.Prelude.{Err, Ok, Result}
use Rattle.std.specs.Result.{IsErrAnd}
use Rattle.std.specs.Io.KnownBytes.{Appends, Consumes, Keeps}
use Rattle.std.proofs.KnownBytes.{Consumes-trans}
use Rattle.judge_core.specs.Answered.{Continues}
use Rattle.judge_core.specs.Session.{IsPrefixAnswered}
use Rattle.judge_core.specs.declared.error.Failure.{Failure}
use Rattle.judge_core.specs.declared.error.Failure.TheVariants.{Memory, ReadFailed, TooLong, WriteFailed}

-- the error of a result that passes an error on
pub err_is : {X E : Type 0} (r : Result X E) (e m : E) → IsErrAnd r (λ x. x ≡ e) → r ≡ Err m → e ≡ m
err_is (Ok x) e m h is = absurd h
err_is (Err x) e m h is = sym h ∙ cc

-- a reader that kept its bytes gave none
pub kept : (old new : Option (List ℕ)) → Keeps old new → Consumes old new []
kept None new h = tt
kept (Some xs) None h = absurd h
kept (Some xs) (Some ys) h = sym h

-- a step that fails for memory or as the writer does, and not as the writer does
pub for_memory : (e : Failure) (B : Type 0) → (e ≢ Memory → e ≡ WriteFailed) → (e ≡ Memory → B) → e ≢ WriteFailed → B
for_memory Memory B fails memory other = memory refl
for_memory ReadFailed B fails memory other = absurd (other (fails (λ e. cc)))
for_memory TooLong B fails memory other = absurd (other (fails (λ e. cc)))
for_memory WriteFailed B fails memory other = absurd (other refl)

-- what was answered of the input, and what came after it
pub beginning : (numbered : Bool) (in_old in_mid in_new out_old out_new : Option (List ℕ)) (text after : List ℕ) (number : ℕ) (back said noted : List ℕ) (judged : Bool) → Consumes in_old in_mid text → Consumes in_mid in_new after → Appends out_old out_new said
    → Continues numbered 1 [] text number back said noted judged → IsPrefixAnswered numbered in_old in_new out_old out_new
beginning numbered in_old in_mid in_new out_old out_new text after number back said noted judged given then written answered = record {
  text = text;
  after = after;
  number = number;
  back = back;
  said = said;
  noted = noted;
  judged = judged;
  given = Consumes-trans in_old in_mid in_new text after given then;
  written = written;
  answered = answered;
}
