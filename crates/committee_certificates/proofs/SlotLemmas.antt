-- Values that have a slot, and what two values are to one another.
use Rattle.std.proofs.Common.{◌≡◌, ◌≢◌, ℕ, ◌-◌, ◌<◌, ◌≤◌, ◌^◌, List, ◌++◌, length, take, drop, ap, sym, ◌∙◌, arith, subst, ◌⊎◌, inl, inr}
use Rattle.std.proofs.Common.{length-append, Result, Ok, Err, ◌↔◌}
use Rattle.std.specs.Result.{IsErrAnd, IsErrOf}
use Rattle.std.proofs.lemmas.List.{append_assoc, take-append-drop, length-take-le, length-drop, take_all}
use Rattle.commonware_base.specs.declared.codec.source.Source.{Source}
use Rattle.commonware_base.specs.declared.codec.error.Error.{Error}
use Rattle.commonware_base.specs.declared.codec.error.Error.TheVariants.{EndOfBuffer, InvalidVarint, InvalidLength}
use Rattle.commonware_base.specs.declared.codec.error.Error.TheVariants.{Invalid, Memory}
use Rattle.commonware_base.specs.Fault.{Fault}
use Rattle.commonware_base.specs.Fault as faults
use Rattle.commonware_base.specs.Refusal.{Refuses}
use Rattle.commonware_base.specs.Source.{Consumes, bytes_of, position_of, rest_of}
use Rattle.commonware_base.specs.Varint.{varint, varint_fault}
use Rattle.commonware_base.specs.laws.VarintLaws.{varint_no_fault, varint_split}
use Rattle.commonware_base.proofs.UnionLemmas.{union_only}
use Rattle.committee_certificates.specs.Slots.{AreOfOtherSlots, AreOneDecision, Contradict, HasSlot, IsFor}

-- before a byte is taken all are left
pub rest_of_new : (source : Source) (value : List ℕ) → bytes_of source ≡ value → position_of source ≡ 0
    → rest_of source ≡ value
rest_of_new source value b p = ap (λ i. drop i source.bytes.now) p ∙ b

-- once a varint is taken, the value is that and what is left
pub text_of : (source after : Source) (value rest : List ℕ) (n : ℕ) → bytes_of source ≡ value → position_of source ≡ 0
    → Consumes source after (varint n) → rest ≡ rest_of after → value ≡ varint n ++ rest
text_of source after value rest n b p c r =
    sym (rest_of_new source value b p) ∙ c.rest ∙ ap (λ t. varint n ++ t) (sym r)

-- what a value with a slot begins with
after_varint : {value slot decision : List ℕ} → IsFor value slot decision
    → value ≡ varint (length slot) ++ (slot ++ decision)
after_varint {value} {slot} {decision} h = h.text ∙ append_assoc (varint (length slot)) slot decision

-- a value that begins with no varint has no slot
no_slot_from_fault : (value : List ℕ) (f : Fault) → varint_fault value f → ¬ HasSlot value
no_slot_from_fault value f w h =
    varint_no_fault value (length h.0) (h.0 ++ h.1) f h.2.short (after_varint h.2) w

pub no_slot_from_refusal : (value : List ℕ) (error : Error) → Refuses (varint_fault value) (Unit {0}) error
    → ¬ HasSlot value
no_slot_from_refusal value EndOfBuffer w = no_slot_from_fault value faults.EndOfBuffer w
no_slot_from_refusal value InvalidVarint w = no_slot_from_fault value faults.InvalidVarint w
no_slot_from_refusal value (InvalidLength n) w = no_slot_from_fault value (faults.InvalidLength n) w
no_slot_from_refusal value (Invalid what why) w = no_slot_from_fault value (faults.Invalid what.now why.now) w
no_slot_from_refusal value Memory w = absurd (w tt)

-- nor has one with fewer bytes than its varint says
pub no_slot_from_short : (value rest : List ℕ) (n : ℕ) → value ≡ varint n ++ rest → n < 2 ^ 32 → length rest < n
    → ¬ HasSlot value
no_slot_from_short value rest n e fits short h =
    let s = varint_split (length h.0) n (h.0 ++ h.1) rest h.2.short fits (sym (after_varint h.2) ∙ e) in
    omega (arith, s.0, ap length (sym s.1), length-append h.0 h.1, short)

-- else the bytes that it counts are the slot, and the others the decision
pub slot_found : (value rest : List ℕ) (n : ℕ) → value ≡ varint n ++ rest → n < 2 ^ 32 → n ≤ length rest
    → IsFor value (take n rest) (take (length rest - n) (drop n rest))
slot_found value rest n e fits enough =
    let counted : length (take n rest) ≡ n = length-take-le n rest enough in
    let whole : take (length rest - n) (drop n rest) ≡ drop n rest =
    take_all (length rest - n) (drop n rest) (omega (arith, length-drop n rest)) in
    record {
      short = subst (λ k. k < 2 ^ 32) (sym counted) fits;
      text =
          e ∙ ap (λ t. varint n ++ t) (sym (take-append-drop n rest) ∙ ap (λ t. take n rest ++ t) (sym whole))
          ∙ sym (append_assoc (varint n) (take n rest) (take (length rest - n) (drop n rest)))
          ∙ ap (λ k. varint k ++ take n rest ++ take (length rest - n) (drop n rest)) (sym counted);
    }

-- no value is for two slots, or two decisions
pub slot_only : (value slot decision s d : List ℕ) → IsFor value slot decision → IsFor value s d
    → (s ≡ slot) × (d ≡ decision)
slot_only value slot decision s d h w = union_only s slot d decision w.short h.short (sym w.text ∙ h.text)

-- values that contradict one another differ
pub differ_from_contradict : {v w : List ℕ} → Contradict v w → v ≢ w
differ_from_contradict {v} {w} c same =
    c.decisions_differ (slot_only w c.slot c.other_decision c.slot c.decision c.other_is_for
    (subst (λ t. IsFor t c.slot c.decision) same c.is_for)).1

module _ {v w s d t e : List ℕ} (first : IsFor v s d) (second : IsFor w t e) where
  -- values of other slots
  pub other_slots_differ : AreOfOtherSlots v w → s ≢ t
  other_slots_differ o same =
      o.slots_differ ((slot_only v s d o.slot o.decision first o.is_for).0 ∙ same
      ∙ sym (slot_only w t e o.other_slot o.other_decision second o.other_is_for).0)

  -- values of one decision
  pub one_decision_same : AreOneDecision v w → (s ≡ t) × (d ≡ e)
  one_decision_same o =
      let p = slot_only v s d o.slot o.decision first o.is_for in
      let q = slot_only w t e o.slot o.decision second o.other_is_for in
      (sym p.0 ∙ q.0, sym p.1 ∙ q.1)

  -- values that contradict one another
  pub contradict_parts : Contradict v w → (s ≡ t) × (d ≢ e)
  contradict_parts c =
      let p = slot_only v s d c.slot c.decision first c.is_for in
      let q = slot_only w t e c.slot c.other_decision second c.other_is_for in
      (sym p.0 ∙ q.0, λ same. c.decisions_differ (p.1 ∙ same ∙ sym q.1))

  -- and the other way round
  pub other_slots : s ≢ t → AreOfOtherSlots v w
  other_slots h = record {
    slot = s;
    decision = d;
    other_slot = t;
    other_decision = e;
    is_for = first;
    other_is_for = second;
    slots_differ = h;
  }

  pub one_decision : s ≡ t → d ≡ e → AreOneDecision v w
  one_decision h k = record {
    slot = s;
    decision = d;
    is_for = first;
    other_is_for = subst (λ x. IsFor w x d) (sym h) (subst (λ x. IsFor w t x) (sym k) second);
  }

  pub contradict : s ≡ t → d ≢ e → Contradict v w
  contradict h k = record {
    slot = s;
    decision = d;
    other_decision = e;
    is_for = first;
    other_is_for = subst (λ x. IsFor w x e) (sym h) second;
    decisions_differ = k;
  }

-- values that contradict one another have slots
pub slots_from_contradict : {v w : List ℕ} → Contradict v w → ((¬ HasSlot v) ⊎ (¬ HasSlot w)) → ⊥
slots_from_contradict c (inl none) = none (c.slot, c.decision, c.is_for)
slots_from_contradict c (inr none) = none (c.slot, c.other_decision, c.other_is_for)

-- what an error of one result means, an error of another with the same error means
pub err_means : {T U E : Type 0} (r : Result T E) (e x : E) (Meaning : Type 0) → IsErrAnd r (λ y. y ≡ e)
    → (IsErrOf {T = U} (Err e) x ↔ Meaning) → (IsErrOf r x ↔ Meaning)
err_means (Ok v) e x Meaning h k = absurd h
err_means (Err y) e x Meaning h k = (
  λ same. let s : y ≡ x = cc same in k.0 (ap Err (sym h ∙ s)),
  λ m. let same = k.1 m in let s : e ≡ x = cc same in ap Err (h ∙ s),
)
