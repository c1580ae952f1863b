-- The first bytes of an input determine what it is as a committee.
use Rattle.std.proofs.Common.{◌≡◌, ◌≤◌, ℕ, List, [], ◌∷◌, ◌++◌, length, arith, subst, append_assoc, length-append, ◌∙◌}
use Rattle.std.specs.List.{flat_map}
use Rattle.commonware_base.specs.Fault.{Fault}
use Rattle.commonware_base.specs.laws.PrefixLaws.{list_memory_free_determined, determined_prefix}
use Rattle.commonware_base.specs.Prefixes.{IsLongPrefix, IsDeterminedBy}
use Rattle.commonware_base.specs.laws.ListLaws.{list_needs_memory}
use Rattle.commonware_base.specs.Lists.{IsListMemoryFree}
use Rattle.commonware_base.specs.Range.{Bounds}
use Rattle.commonware_base.specs.Refusal.{Refuses}
use Rattle.commonware_base.specs.laws.RefusalLaws.{refuses_from}
use Rattle.commonware_base.specs.Varint.{varint}
use Rattle.commonware_base.specs.declared.codec.error.Error.{Error}
use Rattle.commonware_ordered.specs.laws.SetPrefixLaws.{set_fault_determined}
use Rattle.commonware_ordered.specs.Sets.{SetFault}
use Rattle.commonware_sequence.specs.laws.FixedBytesLaws.{fixed_length}
use Rattle.committee_core.specs.Members.{IsMember, member_bytes, member_cmp, member_fault}
use Rattle.committee_core.specs.Run.{members_range, prefix_size, IsCommittee, IsCommitteeMemoryFree, committee_fault}

-- an input of 32 bytes or more has no fault of a member, however it goes on
member_determined : (f : Fault) → IsDeterminedBy 32 (λ s. member_fault s f)
member_determined f s more h = ((λ w. absurd (omega (arith, w.0))), (λ w. absurd (omega (arith, w.0, length-append s more))))

-- the first bytes determine the fault
committee_fault_determined : (f : Fault) → IsDeterminedBy prefix_size (λ s. committee_fault s f)
committee_fault_determined =
    set_fault_determined member_bytes IsMember (λ _. Unit {0}) member_cmp member_fault (λ _. Unit {0}) members_range 32 256 (fixed_length 32) (λ n w. w.below) member_determined

-- and whether an allocation is needed
memory_free_determined : IsDeterminedBy prefix_size IsCommitteeMemoryFree
memory_free_determined =
    list_memory_free_determined member_bytes IsMember (λ _. Unit {0}) member_fault (λ _. Unit {0}) members_range 32 256 (fixed_length 32) (λ n w. w.below) member_determined (omega arith) (λ s more h. ((λ w. tt), (λ w. tt)))

-- An error of the prefix, which a reader takes from bytes under a range, is one of the whole.
pub prefix_refused : (range : Bounds ℕ) (text s prefix : List ℕ) (error : Error) → range ≡ members_range → text ≡ prefix → IsLongPrefix prefix_size s prefix
    → Refuses (SetFault member_bytes IsMember member_cmp (λ _. Unit {0}) member_fault range text) (IsListMemoryFree member_fault (λ _. Unit {0}) range text) error → Refuses (committee_fault s) (IsCommitteeMemoryFree s) error
prefix_refused range text s prefix error by at f refuses =
    let Refused : Bounds ℕ → List ℕ → Type 0 = λ range t. Refuses (SetFault member_bytes IsMember member_cmp (λ _. Unit {0}) member_fault range t) (IsListMemoryFree member_fault (λ _. Unit {0}) range t) error in
    refuses_from (committee_fault prefix) (committee_fault s) (IsCommitteeMemoryFree prefix) (IsCommitteeMemoryFree s)
    (λ fault w. (determined_prefix prefix_size (λ t. committee_fault t fault) s prefix (committee_fault_determined fault) f).0 w)
    (λ wants free. wants ((determined_prefix prefix_size IsCommitteeMemoryFree s prefix memory_free_determined f).1 free))
    error (subst (Refused members_range) at (subst (λ r. Refused r text) by refuses))

-- a committee isn't read without an allocation
pub committee_needs_memory : (s : List ℕ) (members : List (List ℕ)) (rest : List ℕ) → IsCommittee s members rest → ¬ IsCommitteeMemoryFree s
committee_needs_memory s [] rest a = absurd (omega (arith, a.allowed.in_range.above))
committee_needs_memory s (b ∷ members) rest a =
    let all = flat_map member_bytes (b ∷ members) in
    let begins = a.begins ∙ append_assoc (varint (length (b ∷ members))) all rest in
    let enough : 32 ≤ length (all ++ rest) = omega (arith, a.writable.list.each.0.count, length-append b (flat_map member_bytes members), length-append all rest) in
    list_needs_memory member_fault (λ _. Unit {0}) members_range s (length (b ∷ members)) (all ++ rest) a.writable.list.short (omega arith) a.allowed.in_range begins
    (λ free f w. omega (arith, w.0))
