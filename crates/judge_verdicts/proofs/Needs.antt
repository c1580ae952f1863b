-- What isn't read without an allocation.
use Rattle.std.proofs.Common.{◌+◌, ◌-◌, ◌*◌, ◌≤◌, ◌⊎◌, ℕ, List, [], ◌∷◌, ◌++◌, arith, append_assoc, inl, inr, length, refl, ◌∙◌}
use Rattle.std.specs.List.{flat_map}
use Rattle.commonware_base.specs.laws.ListLaws.{list_needs_memory}
use Rattle.commonware_utils.specs.Codec.{Accepts, Bounds, Fault, IsAllowedList, IsByte, IsListMemoryFree, IsWord, IsWritableList, ReadLaws, byte, byte_fault, byte_laws, list_enc, varint, varint_fault, varint_laws}
use Rattle.commonware_sequence.specs.laws.U64Laws.{u64_laws}
use Rattle.commonware_utils.specs.Sequence.{IsU64, u64_bytes, u64_fault}
use Rattle.committee_certificates.specs.Certificates.{IsAllowedCertificate, IsCertificateMemoryFree, IsWritableCertificate, certificate_enc}
use Rattle.committee_certificates.specs.laws.CertificateLaws.{signers_need_memory, value_needs_memory}
use Rattle.judge_questions.specs.Limits.{full}
use Rattle.judge_verdicts.specs.Conflicts.{AreBothOfQuorums}
use Rattle.judge_verdicts.specs.Quorums.{MayFailToAllocateToJudge}
use Rattle.judge_verdicts.specs.Readings.{a_certificate}
use Rattle.judge_verdicts.specs.Weights.{AreListed, MayFailToAllocateToWeigh, listed_numbers}
use Rattle.judge_verdicts.specs.Whole.{IsWhole}

-- a list that has an item
pub items_need_memory : {T : Type 0} (enc : T → List ℕ) (Writable Allowed : T → Type 0) (item_fault : List ℕ → Fault → Type 0) (ItemMemoryFree : List ℕ → Type 0) → ReadLaws enc Writable Allowed item_fault
    → (range : Bounds ℕ) (text : List ℕ) (items : List T) (rest : List ℕ) → Accepts (list_enc enc) (IsWritableList Writable) (IsAllowedList range Allowed) text items rest → 1 ≤ length items
    → ¬ IsListMemoryFree item_fault ItemMemoryFree range text
items_need_memory enc Writable Allowed item_fault ItemMemoryFree laws range text [] rest a some = absurd (omega arith)
items_need_memory enc Writable Allowed item_fault ItemMemoryFree laws range text (x ∷ xs) rest a some =
    let n = length (x ∷ xs) in
    let after = flat_map enc (x ∷ xs) ++ rest in
    list_needs_memory item_fault ItemMemoryFree range text n after a.writable.short (omega arith) a.allowed.in_range (a.begins ∙ append_assoc (varint n) (flat_map enc (x ∷ xs)) rest)
    (λ free f faulty. laws.accepted_no_fault after x (flat_map enc xs ++ rest) f (record { writable = a.writable.each.0; allowed = a.allowed.each.0; begins = append_assoc (enc x) (flat_map enc xs) rest }) faulty)

-- a certificate whose value has a byte, or that someone signed
pub certificate_needs_memory : (value signers : Bounds ℕ) (text : List ℕ) (p : List ℕ × List ℕ) (rest : List ℕ) → Accepts certificate_enc IsWritableCertificate (IsAllowedCertificate value signers) text p rest
    → (1 ≤ length p.0) ⊎ (1 ≤ length p.1) → ¬ IsCertificateMemoryFree value signers text
certificate_needs_memory value signers text p rest a some = elim some [
  | inl bytes ↦ value_needs_memory value signers text (items_need_memory byte IsByte (λ _. Unit {0}) byte_fault (λ _. Unit {0}) byte_laws value text p.0 after first bytes)
  | inr signed ↦
      signers_need_memory value signers text p.0 after first
      (items_need_memory varint IsWord (λ _. Unit {0}) varint_fault (λ _. Unit {0}) varint_laws signers after p.1 rest (record { writable = a.writable.1.list; allowed = a.allowed.1; begins = refl }) signed)
]
  where
    after : List ℕ
    after = list_enc varint p.1 ++ rest

    first : Accepts (list_enc byte) (IsWritableList IsByte) (IsAllowedList value (λ _. Unit {0})) text p.0 after
    first = record { writable = a.writable.0; allowed = a.allowed.0; begins = a.begins ∙ append_assoc (list_enc byte p.0) (list_enc varint p.1) rest }

-- a certificate of a value that has a byte
pub value_needs : (text : List ℕ) (p : List ℕ × List ℕ) → IsWhole (a_certificate full full) text p → 1 ≤ length p.0 → MayFailToAllocateToJudge text
value_needs text p whole some = certificate_needs_memory full full text p [] whole (inl some)

-- the first of two certificates that quorums signed, since a quorum has a member
pub quorum_needs : (k n : ℕ) (text : List ℕ) (one other : List ℕ × List ℕ) → 1 ≤ n → 2 ≤ k → IsWhole (a_certificate full full) text one → AreBothOfQuorums k n one other → MayFailToAllocateToJudge text
quorum_needs k n text one other some least whole (faults, tolerance, first, second) =
    certificate_needs_memory full full text one [] whole (inr (signed faults tolerance.fits.fits first.1))
  where
    signed : (f : ℕ) → k * f + 1 ≤ n → n - f ≤ length one.1 → 1 ≤ length one.1
    signed f fits quorum = grind arith

-- a list of numbers that has one
pub numbers_need : (text numbers : List ℕ) → IsWhole listed_numbers text numbers → 1 ≤ length numbers → MayFailToAllocateToWeigh text
numbers_need text numbers whole some = items_need_memory u64_bytes IsU64 (λ _. Unit {0}) u64_fault (λ _. Unit {0}) u64_laws full text numbers [] whole some

-- the weights of a committee, of which there is one at least
pub weights_need : (text weights : List ℕ) → AreListed text weights → MayFailToAllocateToWeigh text
weights_need text weights (whole, are) = numbers_need text weights whole (omega (arith, are.are_weights.some))
