use Rattle.std.proofs.Common.{◌≡◌, ℕ, ◌∙◌, subst, sym}
use Rattle.std.specs.Prelude.{IfErr, IfOk, nat_eq}
use Rattle.std.specs.Cmp.Lexicographic.{pointwise, slice_cmp}
use Rattle.std.specs.Ordering.{nat_cmp}
use Rattle.commonware_utils.specs.Codec.{Bounds, as_numbers}
use Rattle.judge_questions.specs.Limits.{full}
use Rattle.judge_questions.specs.declared.collection.Collection.TheVariants as collections
use Rattle.judge_verdicts.specs.Builds.{IsSetBuilt, MayFailToAllocateToBuild}
use Rattle.judge_verdicts.specs.Collections.{IsBuilt, lists_of}
use Rattle.judge_verdicts.specs.Readings.{a_byte, a_member, a_varint, a_word, bytes_of_size, list_of, non_empty_of, set_of}
use Rattle.judge_verdicts.specs.Whole.{items_of}
use Rattle.judge_verdicts.proofs.collections.build_form.Goals as goal

pub returns-in-U8-clause-built : goal.returns-in-U8-clause-built
returns-in-U8-clause-built g c =
    let all : c.range-all.result ≡ full = c.range-all.ensures ∙ c.full.ensures in
    subst (λ form. IfOk c.build_set.result (λ built. IsBuilt (collections.Set form) c.args.unique c.args.text.now (items_of built))) (sym c.in-U8.is) (subst (λ (r : Bounds ℕ). IfOk c.build_set.result (λ built. IsSetBuilt c.args.unique r a_byte nat_eq nat_cmp c.args.text.now (items_of built))) all c.build_set.ensures.built)

pub returns-in-U32-clause-built : goal.returns-in-U32-clause-built
returns-in-U32-clause-built g c =
    let all : c.range-all.result ≡ full = c.range-all.ensures ∙ c.full.ensures in
    subst (λ form. IfOk c.build_set-in-U32.result (λ built. IsBuilt (collections.Set form) c.args.unique c.args.text.now (items_of built))) (sym c.in-U32.is) (subst (λ (r : Bounds ℕ). IfOk c.build_set-in-U32.result (λ built. IsSetBuilt c.args.unique r a_word nat_eq nat_cmp c.args.text.now (items_of built))) all c.build_set-in-U32.ensures.built)

pub returns-in-Participant-clause-built : goal.returns-in-Participant-clause-built
returns-in-Participant-clause-built g c =
    let all : c.range-all.result ≡ full = c.range-all.ensures ∙ c.full.ensures in
    subst (λ form. IfOk c.build_set-in-Participant.result (λ built. IsBuilt (collections.Set form) c.args.unique c.args.text.now (items_of built))) (sym c.in-Participant.is) (subst (λ (r : Bounds ℕ). IfOk c.build_set-in-Participant.result (λ built. IsSetBuilt c.args.unique r a_varint nat_eq nat_cmp c.args.text.now (items_of built))) all c.build_set-in-Participant.ensures.built)

pub returns-in-Member-clause-built : goal.returns-in-Member-clause-built
returns-in-Member-clause-built g c =
    let all : c.range-all.result ≡ full = c.range-all.ensures ∙ c.full.ensures in
    subst (λ form. IfOk c.build_set-in-Member.result (λ built. IsBuilt (collections.Set form) c.args.unique c.args.text.now (items_of built))) (sym c.in-Member.is) (subst (λ (r : Bounds ℕ). IfOk c.build_set-in-Member.result (λ built. IsSetBuilt c.args.unique r a_member (pointwise nat_eq) (slice_cmp nat_cmp) c.args.text.now (items_of built))) all c.build_set-in-Member.ensures.built)

pub returns-in-Bytes20-clause-built : goal.returns-in-Bytes20-clause-built
returns-in-Bytes20-clause-built g c =
    let all : c.range-all.result ≡ full = c.range-all.ensures ∙ c.full.ensures in
    subst (λ form. IfOk c.build_set-in-Bytes20.result (λ built. IsBuilt (collections.Set form) c.args.unique c.args.text.now (items_of built))) (sym c.in-Bytes20.is) (subst (λ (r : Bounds ℕ). IfOk c.build_set-in-Bytes20.result (λ built. IsSetBuilt c.args.unique r (bytes_of_size 20) (pointwise nat_eq) (slice_cmp nat_cmp) c.args.text.now (items_of built))) all c.build_set-in-Bytes20.ensures.built)

pub returns-in-Bytes33-clause-built : goal.returns-in-Bytes33-clause-built
returns-in-Bytes33-clause-built g c =
    let all : c.range-all.result ≡ full = c.range-all.ensures ∙ c.full.ensures in
    subst (λ form. IfOk c.build_set-in-Bytes33.result (λ built. IsBuilt (collections.Set form) c.args.unique c.args.text.now (items_of built))) (sym c.in-Bytes33.is) (subst (λ (r : Bounds ℕ). IfOk c.build_set-in-Bytes33.result (λ built. IsSetBuilt c.args.unique r (bytes_of_size 33) (pointwise nat_eq) (slice_cmp nat_cmp) c.args.text.now (items_of built))) all c.build_set-in-Bytes33.ensures.built)

pub returns-in-Bytes48-clause-built : goal.returns-in-Bytes48-clause-built
returns-in-Bytes48-clause-built g c =
    let all : c.range-all.result ≡ full = c.range-all.ensures ∙ c.full.ensures in
    subst (λ form. IfOk c.build_set-in-Bytes48.result (λ built. IsBuilt (collections.Set form) c.args.unique c.args.text.now (items_of built))) (sym c.in-Bytes48.is) (subst (λ (r : Bounds ℕ). IfOk c.build_set-in-Bytes48.result (λ built. IsSetBuilt c.args.unique r (bytes_of_size 48) (pointwise nat_eq) (slice_cmp nat_cmp) c.args.text.now (items_of built))) all c.build_set-in-Bytes48.ensures.built)

pub returns-in-Bytes96-clause-built : goal.returns-in-Bytes96-clause-built
returns-in-Bytes96-clause-built g c =
    let all : c.range-all.result ≡ full = c.range-all.ensures ∙ c.full.ensures in
    subst (λ form. IfOk c.build_set-in-Bytes96.result (λ built. IsBuilt (collections.Set form) c.args.unique c.args.text.now (items_of built))) (sym c.in-Bytes96.is) (subst (λ (r : Bounds ℕ). IfOk c.build_set-in-Bytes96.result (λ built. IsSetBuilt c.args.unique r (bytes_of_size 96) (pointwise nat_eq) (slice_cmp nat_cmp) c.args.text.now (items_of built))) all c.build_set-in-Bytes96.ensures.built)

pub returns-in-SetU8-clause-built : goal.returns-in-SetU8-clause-built
returns-in-SetU8-clause-built g c =
    let all : c.range-all.result ≡ full = c.range-all.ensures ∙ c.full.ensures in
    subst (λ form. IfOk c.build_set-in-SetU8.result (λ built. IsBuilt (collections.Set form) c.args.unique c.args.text.now (items_of built))) (sym c.in-SetU8.is) (subst (λ (r : Bounds ℕ). IfOk c.build_set-in-SetU8.result (λ built. IsSetBuilt c.args.unique r (set_of r a_byte nat_cmp) (pointwise nat_eq) (slice_cmp nat_cmp) c.args.text.now (items_of built))) all c.build_set-in-SetU8.ensures.built)

pub returns-in-NonEmptyU8-clause-built : goal.returns-in-NonEmptyU8-clause-built
returns-in-NonEmptyU8-clause-built g c =
    let all : c.range-all.result ≡ full = c.range-all.ensures ∙ c.full.ensures in
    let some : as_numbers c.non_zero-some.result ≡ full = c.non_zero-some.ensures ∙ c.full-in-NonEmptyU8.ensures in
    subst (λ form. IfOk c.build_set-in-NonEmptyU8.result (λ built. IsBuilt (collections.Set form) c.args.unique c.args.text.now (items_of built))) (sym c.in-NonEmptyU8.is) (subst (λ (s : Bounds ℕ). IfOk c.build_set-in-NonEmptyU8.result (λ built. IsSetBuilt c.args.unique full (non_empty_of s a_byte) (pointwise nat_eq) (slice_cmp nat_cmp) c.args.text.now (items_of built))) some (subst (λ (r : Bounds ℕ). IfOk c.build_set-in-NonEmptyU8.result (λ built. IsSetBuilt c.args.unique r (non_empty_of (as_numbers c.non_zero-some.result) a_byte) (pointwise nat_eq) (slice_cmp nat_cmp) c.args.text.now (items_of built))) all c.build_set-in-NonEmptyU8.ensures.built))

pub returns-in-U8-clause-memory : goal.returns-in-U8-clause-memory
returns-in-U8-clause-memory g c =
    let all : c.range-all.result ≡ full = c.range-all.ensures ∙ c.full.ensures in
    subst (λ form. IfErr c.build_set.result (λ _. MayFailToAllocateToBuild (lists_of (collections.Set form)) c.args.text.now)) (sym c.in-U8.is) (subst (λ (r : Bounds ℕ). IfErr c.build_set.result (λ _. MayFailToAllocateToBuild (list_of r a_byte) c.args.text.now)) all c.build_set.ensures.memory)

pub returns-in-U32-clause-memory : goal.returns-in-U32-clause-memory
returns-in-U32-clause-memory g c =
    let all : c.range-all.result ≡ full = c.range-all.ensures ∙ c.full.ensures in
    subst (λ form. IfErr c.build_set-in-U32.result (λ _. MayFailToAllocateToBuild (lists_of (collections.Set form)) c.args.text.now)) (sym c.in-U32.is) (subst (λ (r : Bounds ℕ). IfErr c.build_set-in-U32.result (λ _. MayFailToAllocateToBuild (list_of r a_word) c.args.text.now)) all c.build_set-in-U32.ensures.memory)

pub returns-in-Participant-clause-memory : goal.returns-in-Participant-clause-memory
returns-in-Participant-clause-memory g c =
    let all : c.range-all.result ≡ full = c.range-all.ensures ∙ c.full.ensures in
    subst (λ form. IfErr c.build_set-in-Participant.result (λ _. MayFailToAllocateToBuild (lists_of (collections.Set form)) c.args.text.now)) (sym c.in-Participant.is) (subst (λ (r : Bounds ℕ). IfErr c.build_set-in-Participant.result (λ _. MayFailToAllocateToBuild (list_of r a_varint) c.args.text.now)) all c.build_set-in-Participant.ensures.memory)

pub returns-in-Member-clause-memory : goal.returns-in-Member-clause-memory
returns-in-Member-clause-memory g c =
    let all : c.range-all.result ≡ full = c.range-all.ensures ∙ c.full.ensures in
    subst (λ form. IfErr c.build_set-in-Member.result (λ _. MayFailToAllocateToBuild (lists_of (collections.Set form)) c.args.text.now)) (sym c.in-Member.is) (subst (λ (r : Bounds ℕ). IfErr c.build_set-in-Member.result (λ _. MayFailToAllocateToBuild (list_of r a_member) c.args.text.now)) all c.build_set-in-Member.ensures.memory)

pub returns-in-Bytes20-clause-memory : goal.returns-in-Bytes20-clause-memory
returns-in-Bytes20-clause-memory g c =
    let all : c.range-all.result ≡ full = c.range-all.ensures ∙ c.full.ensures in
    subst (λ form. IfErr c.build_set-in-Bytes20.result (λ _. MayFailToAllocateToBuild (lists_of (collections.Set form)) c.args.text.now)) (sym c.in-Bytes20.is) (subst (λ (r : Bounds ℕ). IfErr c.build_set-in-Bytes20.result (λ _. MayFailToAllocateToBuild (list_of r (bytes_of_size 20)) c.args.text.now)) all c.build_set-in-Bytes20.ensures.memory)

pub returns-in-Bytes33-clause-memory : goal.returns-in-Bytes33-clause-memory
returns-in-Bytes33-clause-memory g c =
    let all : c.range-all.result ≡ full = c.range-all.ensures ∙ c.full.ensures in
    subst (λ form. IfErr c.build_set-in-Bytes33.result (λ _. MayFailToAllocateToBuild (lists_of (collections.Set form)) c.args.text.now)) (sym c.in-Bytes33.is) (subst (λ (r : Bounds ℕ). IfErr c.build_set-in-Bytes33.result (λ _. MayFailToAllocateToBuild (list_of r (bytes_of_size 33)) c.args.text.now)) all c.build_set-in-Bytes33.ensures.memory)

pub returns-in-Bytes48-clause-memory : goal.returns-in-Bytes48-clause-memory
returns-in-Bytes48-clause-memory g c =
    let all : c.range-all.result ≡ full = c.range-all.ensures ∙ c.full.ensures in
    subst (λ form. IfErr c.build_set-in-Bytes48.result (λ _. MayFailToAllocateToBuild (lists_of (collections.Set form)) c.args.text.now)) (sym c.in-Bytes48.is) (subst (λ (r : Bounds ℕ). IfErr c.build_set-in-Bytes48.result (λ _. MayFailToAllocateToBuild (list_of r (bytes_of_size 48)) c.args.text.now)) all c.build_set-in-Bytes48.ensures.memory)

pub returns-in-Bytes96-clause-memory : goal.returns-in-Bytes96-clause-memory
returns-in-Bytes96-clause-memory g c =
    let all : c.range-all.result ≡ full = c.range-all.ensures ∙ c.full.ensures in
    subst (λ form. IfErr c.build_set-in-Bytes96.result (λ _. MayFailToAllocateToBuild (lists_of (collections.Set form)) c.args.text.now)) (sym c.in-Bytes96.is) (subst (λ (r : Bounds ℕ). IfErr c.build_set-in-Bytes96.result (λ _. MayFailToAllocateToBuild (list_of r (bytes_of_size 96)) c.args.text.now)) all c.build_set-in-Bytes96.ensures.memory)

pub returns-in-SetU8-clause-memory : goal.returns-in-SetU8-clause-memory
returns-in-SetU8-clause-memory g c =
    let all : c.range-all.result ≡ full = c.range-all.ensures ∙ c.full.ensures in
    subst (λ form. IfErr c.build_set-in-SetU8.result (λ _. MayFailToAllocateToBuild (lists_of (collections.Set form)) c.args.text.now)) (sym c.in-SetU8.is) (subst (λ (r : Bounds ℕ). IfErr c.build_set-in-SetU8.result (λ _. MayFailToAllocateToBuild (list_of r (set_of r a_byte nat_cmp)) c.args.text.now)) all c.build_set-in-SetU8.ensures.memory)

pub returns-in-NonEmptyU8-clause-memory : goal.returns-in-NonEmptyU8-clause-memory
returns-in-NonEmptyU8-clause-memory g c =
    let all : c.range-all.result ≡ full = c.range-all.ensures ∙ c.full.ensures in
    let some : as_numbers c.non_zero-some.result ≡ full = c.non_zero-some.ensures ∙ c.full-in-NonEmptyU8.ensures in
    subst (λ form. IfErr c.build_set-in-NonEmptyU8.result (λ _. MayFailToAllocateToBuild (lists_of (collections.Set form)) c.args.text.now)) (sym c.in-NonEmptyU8.is) (subst (λ (s : Bounds ℕ). IfErr c.build_set-in-NonEmptyU8.result (λ _. MayFailToAllocateToBuild (list_of full (non_empty_of s a_byte)) c.args.text.now)) some (subst (λ (r : Bounds ℕ). IfErr c.build_set-in-NonEmptyU8.result (λ _. MayFailToAllocateToBuild (list_of r (non_empty_of (as_numbers c.non_zero-some.result) a_byte)) c.args.text.now)) all c.build_set-in-NonEmptyU8.ensures.memory))
