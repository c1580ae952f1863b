use Rattle.std.proofs.Common.{◌≡◌, ℕ, ◌∙◌, subst, sym}
use Rattle.std.specs.Prelude.{IfErr, IfOk, nat_eq}
use Rattle.std.specs.Cmp.Lexicographic.{pointwise, slice_cmp}
use Rattle.std.specs.Ordering.{nat_cmp}
use Rattle.commonware_utils.specs.Codec.{Bounds, as_numbers}
use Rattle.judge_questions.specs.Limits.{full}
use Rattle.judge_verdicts.specs.Collections.{IsFoundIn, MayFailToAllocateToFindIn}
use Rattle.judge_verdicts.specs.Places.{IsFound, MayFailToAllocateToFind}
use Rattle.judge_verdicts.specs.Readings.{a_byte, a_member, a_varint, a_word, bytes_of_size, non_empty_of, set_of}
use Rattle.judge_verdicts.proofs.collections.position.Goals as goal

pub returns-in-U8-clause-found : goal.returns-in-U8-clause-found
returns-in-U8-clause-found g c =
    let all : c.range-all.result ≡ full = c.range-all.ensures ∙ c.full.ensures in
    subst (λ form. IfOk c.position_as.result (IsFoundIn form c.args.set.now c.args.item.now)) (sym c.in-U8.is) (subst (λ (r : Bounds ℕ). IfOk c.position_as.result (IsFound r a_byte nat_eq nat_cmp c.args.set.now c.args.item.now)) all c.position_as.ensures.found)

pub returns-in-U32-clause-found : goal.returns-in-U32-clause-found
returns-in-U32-clause-found g c =
    let all : c.range-all.result ≡ full = c.range-all.ensures ∙ c.full.ensures in
    subst (λ form. IfOk c.position_as-in-U32.result (IsFoundIn form c.args.set.now c.args.item.now)) (sym c.in-U32.is) (subst (λ (r : Bounds ℕ). IfOk c.position_as-in-U32.result (IsFound r a_word nat_eq nat_cmp c.args.set.now c.args.item.now)) all c.position_as-in-U32.ensures.found)

pub returns-in-Participant-clause-found : goal.returns-in-Participant-clause-found
returns-in-Participant-clause-found g c =
    let all : c.range-all.result ≡ full = c.range-all.ensures ∙ c.full.ensures in
    subst (λ form. IfOk c.position_as-in-Participant.result (IsFoundIn form c.args.set.now c.args.item.now)) (sym c.in-Participant.is) (subst (λ (r : Bounds ℕ). IfOk c.position_as-in-Participant.result (IsFound r a_varint nat_eq nat_cmp c.args.set.now c.args.item.now)) all c.position_as-in-Participant.ensures.found)

pub returns-in-Member-clause-found : goal.returns-in-Member-clause-found
returns-in-Member-clause-found g c =
    let all : c.range-all.result ≡ full = c.range-all.ensures ∙ c.full.ensures in
    subst (λ form. IfOk c.position_as-in-Member.result (IsFoundIn form c.args.set.now c.args.item.now)) (sym c.in-Member.is) (subst (λ (r : Bounds ℕ). IfOk c.position_as-in-Member.result (IsFound r a_member (pointwise nat_eq) (slice_cmp nat_cmp) c.args.set.now c.args.item.now)) all c.position_as-in-Member.ensures.found)

pub returns-in-Bytes20-clause-found : goal.returns-in-Bytes20-clause-found
returns-in-Bytes20-clause-found g c =
    let all : c.range-all.result ≡ full = c.range-all.ensures ∙ c.full.ensures in
    subst (λ form. IfOk c.position_as-in-Bytes20.result (IsFoundIn form c.args.set.now c.args.item.now)) (sym c.in-Bytes20.is) (subst (λ (r : Bounds ℕ). IfOk c.position_as-in-Bytes20.result (IsFound r (bytes_of_size 20) (pointwise nat_eq) (slice_cmp nat_cmp) c.args.set.now c.args.item.now)) all c.position_as-in-Bytes20.ensures.found)

pub returns-in-Bytes33-clause-found : goal.returns-in-Bytes33-clause-found
returns-in-Bytes33-clause-found g c =
    let all : c.range-all.result ≡ full = c.range-all.ensures ∙ c.full.ensures in
    subst (λ form. IfOk c.position_as-in-Bytes33.result (IsFoundIn form c.args.set.now c.args.item.now)) (sym c.in-Bytes33.is) (subst (λ (r : Bounds ℕ). IfOk c.position_as-in-Bytes33.result (IsFound r (bytes_of_size 33) (pointwise nat_eq) (slice_cmp nat_cmp) c.args.set.now c.args.item.now)) all c.position_as-in-Bytes33.ensures.found)

pub returns-in-Bytes48-clause-found : goal.returns-in-Bytes48-clause-found
returns-in-Bytes48-clause-found g c =
    let all : c.range-all.result ≡ full = c.range-all.ensures ∙ c.full.ensures in
    subst (λ form. IfOk c.position_as-in-Bytes48.result (IsFoundIn form c.args.set.now c.args.item.now)) (sym c.in-Bytes48.is) (subst (λ (r : Bounds ℕ). IfOk c.position_as-in-Bytes48.result (IsFound r (bytes_of_size 48) (pointwise nat_eq) (slice_cmp nat_cmp) c.args.set.now c.args.item.now)) all c.position_as-in-Bytes48.ensures.found)

pub returns-in-Bytes96-clause-found : goal.returns-in-Bytes96-clause-found
returns-in-Bytes96-clause-found g c =
    let all : c.range-all.result ≡ full = c.range-all.ensures ∙ c.full.ensures in
    subst (λ form. IfOk c.position_as-in-Bytes96.result (IsFoundIn form c.args.set.now c.args.item.now)) (sym c.in-Bytes96.is) (subst (λ (r : Bounds ℕ). IfOk c.position_as-in-Bytes96.result (IsFound r (bytes_of_size 96) (pointwise nat_eq) (slice_cmp nat_cmp) c.args.set.now c.args.item.now)) all c.position_as-in-Bytes96.ensures.found)

pub returns-in-SetU8-clause-found : goal.returns-in-SetU8-clause-found
returns-in-SetU8-clause-found g c =
    let all : c.range-all.result ≡ full = c.range-all.ensures ∙ c.full.ensures in
    subst (λ form. IfOk c.position_as-in-SetU8.result (IsFoundIn form c.args.set.now c.args.item.now)) (sym c.in-SetU8.is) (subst (λ (r : Bounds ℕ). IfOk c.position_as-in-SetU8.result (IsFound r (set_of r a_byte nat_cmp) (pointwise nat_eq) (slice_cmp nat_cmp) c.args.set.now c.args.item.now)) all c.position_as-in-SetU8.ensures.found)

pub returns-in-NonEmptyU8-clause-found : goal.returns-in-NonEmptyU8-clause-found
returns-in-NonEmptyU8-clause-found g c =
    let all : c.range-all.result ≡ full = c.range-all.ensures ∙ c.full.ensures in
    let some : as_numbers c.non_zero-some.result ≡ full = c.non_zero-some.ensures ∙ c.full-in-NonEmptyU8.ensures in
    subst (λ form. IfOk c.position_as-in-NonEmptyU8.result (IsFoundIn form c.args.set.now c.args.item.now)) (sym c.in-NonEmptyU8.is) (subst (λ (s : Bounds ℕ). IfOk c.position_as-in-NonEmptyU8.result (IsFound full (non_empty_of s a_byte) (pointwise nat_eq) (slice_cmp nat_cmp) c.args.set.now c.args.item.now)) some (subst (λ (r : Bounds ℕ). IfOk c.position_as-in-NonEmptyU8.result (IsFound r (non_empty_of (as_numbers c.non_zero-some.result) a_byte) (pointwise nat_eq) (slice_cmp nat_cmp) c.args.set.now c.args.item.now)) all c.position_as-in-NonEmptyU8.ensures.found))

pub returns-in-U8-clause-memory : goal.returns-in-U8-clause-memory
returns-in-U8-clause-memory g c =
    let all : c.range-all.result ≡ full = c.range-all.ensures ∙ c.full.ensures in
    subst (λ form. IfErr c.position_as.result (λ _. MayFailToAllocateToFindIn form c.args.set.now c.args.item.now)) (sym c.in-U8.is) (subst (λ (r : Bounds ℕ). IfErr c.position_as.result (λ _. MayFailToAllocateToFind r a_byte nat_cmp c.args.set.now c.args.item.now)) all c.position_as.ensures.memory)

pub returns-in-U32-clause-memory : goal.returns-in-U32-clause-memory
returns-in-U32-clause-memory g c =
    let all : c.range-all.result ≡ full = c.range-all.ensures ∙ c.full.ensures in
    subst (λ form. IfErr c.position_as-in-U32.result (λ _. MayFailToAllocateToFindIn form c.args.set.now c.args.item.now)) (sym c.in-U32.is) (subst (λ (r : Bounds ℕ). IfErr c.position_as-in-U32.result (λ _. MayFailToAllocateToFind r a_word nat_cmp c.args.set.now c.args.item.now)) all c.position_as-in-U32.ensures.memory)

pub returns-in-Participant-clause-memory : goal.returns-in-Participant-clause-memory
returns-in-Participant-clause-memory g c =
    let all : c.range-all.result ≡ full = c.range-all.ensures ∙ c.full.ensures in
    subst (λ form. IfErr c.position_as-in-Participant.result (λ _. MayFailToAllocateToFindIn form c.args.set.now c.args.item.now)) (sym c.in-Participant.is) (subst (λ (r : Bounds ℕ). IfErr c.position_as-in-Participant.result (λ _. MayFailToAllocateToFind r a_varint nat_cmp c.args.set.now c.args.item.now)) all c.position_as-in-Participant.ensures.memory)

pub returns-in-Member-clause-memory : goal.returns-in-Member-clause-memory
returns-in-Member-clause-memory g c =
    let all : c.range-all.result ≡ full = c.range-all.ensures ∙ c.full.ensures in
    subst (λ form. IfErr c.position_as-in-Member.result (λ _. MayFailToAllocateToFindIn form c.args.set.now c.args.item.now)) (sym c.in-Member.is) (subst (λ (r : Bounds ℕ). IfErr c.position_as-in-Member.result (λ _. MayFailToAllocateToFind r a_member (slice_cmp nat_cmp) c.args.set.now c.args.item.now)) all c.position_as-in-Member.ensures.memory)

pub returns-in-Bytes20-clause-memory : goal.returns-in-Bytes20-clause-memory
returns-in-Bytes20-clause-memory g c =
    let all : c.range-all.result ≡ full = c.range-all.ensures ∙ c.full.ensures in
    subst (λ form. IfErr c.position_as-in-Bytes20.result (λ _. MayFailToAllocateToFindIn form c.args.set.now c.args.item.now)) (sym c.in-Bytes20.is) (subst (λ (r : Bounds ℕ). IfErr c.position_as-in-Bytes20.result (λ _. MayFailToAllocateToFind r (bytes_of_size 20) (slice_cmp nat_cmp) c.args.set.now c.args.item.now)) all c.position_as-in-Bytes20.ensures.memory)

pub returns-in-Bytes33-clause-memory : goal.returns-in-Bytes33-clause-memory
returns-in-Bytes33-clause-memory g c =
    let all : c.range-all.result ≡ full = c.range-all.ensures ∙ c.full.ensures in
    subst (λ form. IfErr c.position_as-in-Bytes33.result (λ _. MayFailToAllocateToFindIn form c.args.set.now c.args.item.now)) (sym c.in-Bytes33.is) (subst (λ (r : Bounds ℕ). IfErr c.position_as-in-Bytes33.result (λ _. MayFailToAllocateToFind r (bytes_of_size 33) (slice_cmp nat_cmp) c.args.set.now c.args.item.now)) all c.position_as-in-Bytes33.ensures.memory)

pub returns-in-Bytes48-clause-memory : goal.returns-in-Bytes48-clause-memory
returns-in-Bytes48-clause-memory g c =
    let all : c.range-all.result ≡ full = c.range-all.ensures ∙ c.full.ensures in
    subst (λ form. IfErr c.position_as-in-Bytes48.result (λ _. MayFailToAllocateToFindIn form c.args.set.now c.args.item.now)) (sym c.in-Bytes48.is) (subst (λ (r : Bounds ℕ). IfErr c.position_as-in-Bytes48.result (λ _. MayFailToAllocateToFind r (bytes_of_size 48) (slice_cmp nat_cmp) c.args.set.now c.args.item.now)) all c.position_as-in-Bytes48.ensures.memory)

pub returns-in-Bytes96-clause-memory : goal.returns-in-Bytes96-clause-memory
returns-in-Bytes96-clause-memory g c =
    let all : c.range-all.result ≡ full = c.range-all.ensures ∙ c.full.ensures in
    subst (λ form. IfErr c.position_as-in-Bytes96.result (λ _. MayFailToAllocateToFindIn form c.args.set.now c.args.item.now)) (sym c.in-Bytes96.is) (subst (λ (r : Bounds ℕ). IfErr c.position_as-in-Bytes96.result (λ _. MayFailToAllocateToFind r (bytes_of_size 96) (slice_cmp nat_cmp) c.args.set.now c.args.item.now)) all c.position_as-in-Bytes96.ensures.memory)

pub returns-in-SetU8-clause-memory : goal.returns-in-SetU8-clause-memory
returns-in-SetU8-clause-memory g c =
    let all : c.range-all.result ≡ full = c.range-all.ensures ∙ c.full.ensures in
    subst (λ form. IfErr c.position_as-in-SetU8.result (λ _. MayFailToAllocateToFindIn form c.args.set.now c.args.item.now)) (sym c.in-SetU8.is) (subst (λ (r : Bounds ℕ). IfErr c.position_as-in-SetU8.result (λ _. MayFailToAllocateToFind r (set_of r a_byte nat_cmp) (slice_cmp nat_cmp) c.args.set.now c.args.item.now)) all c.position_as-in-SetU8.ensures.memory)

pub returns-in-NonEmptyU8-clause-memory : goal.returns-in-NonEmptyU8-clause-memory
returns-in-NonEmptyU8-clause-memory g c =
    let all : c.range-all.result ≡ full = c.range-all.ensures ∙ c.full.ensures in
    let some : as_numbers c.non_zero-some.result ≡ full = c.non_zero-some.ensures ∙ c.full-in-NonEmptyU8.ensures in
    subst (λ form. IfErr c.position_as-in-NonEmptyU8.result (λ _. MayFailToAllocateToFindIn form c.args.set.now c.args.item.now)) (sym c.in-NonEmptyU8.is) (subst (λ (s : Bounds ℕ). IfErr c.position_as-in-NonEmptyU8.result (λ _. MayFailToAllocateToFind full (non_empty_of s a_byte) (slice_cmp nat_cmp) c.args.set.now c.args.item.now)) some (subst (λ (r : Bounds ℕ). IfErr c.position_as-in-NonEmptyU8.result (λ _. MayFailToAllocateToFind r (non_empty_of (as_numbers c.non_zero-some.result) a_byte) (slice_cmp nat_cmp) c.args.set.now c.args.item.now)) all c.position_as-in-NonEmptyU8.ensures.memory))
