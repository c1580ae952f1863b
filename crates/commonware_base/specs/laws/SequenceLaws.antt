-- What is proved of one value after another: where both parts keep the laws, so does the whole.
use Rattle.std.specs.Prelude.{◌≡◌, ℕ, List, [], ◌++◌, Bool, ◌&&◌}
use Rattle.std.proofs.Common.{inl, inr, ap, sym, subst, ◌∙◌, refl}
use Rattle.std.proofs.lemmas.Bool.{and_parts, and_from}
use Rattle.std.proofs.lemmas.List.{append_assoc, append_cancel_left}
use Rattle.commonware_base.specs.Fault.{Fault}
use Rattle.commonware_base.specs.Text.{AreBytes, Accepts, IsPrefixFree, ReadLaws, CanonicalLaws}
use Rattle.commonware_base.specs.laws.TextLaws.{bytes_append, bytes_right}
use Rattle.commonware_base.specs.Sequence.{sequence_enc, IsWritableSequence, IsAllowedSequence, SequenceFault}
use Rattle.commonware_base.specs.Sequence.{sequence_case, bad_first, bad_second}

module _ {X Y : Type 0} (ex : X → List ℕ) (WX : X → Type 0) (first_prefix_free : IsPrefixFree ex WX) (ey : Y → List ℕ)
    (WY : Y → Type 0) where
  -- where an input begins with two pairs, their first encodings are the same, and so is what follows
  split_sequence : (p q : X × Y) (s t : List ℕ) → IsWritableSequence WX WY p → IsWritableSequence WX WY q
      → sequence_enc ex ey p ++ s ≡ sequence_enc ex ey q ++ t → (ex p.0 ≡ ex q.0) × (ey p.1 ++ s ≡ ey q.1 ++ t)
  split_sequence p q s t v w e =
      let f : ex p.0 ++ (ey p.1 ++ s) ≡ ex q.0 ++ (ey q.1 ++ t) =
      sym (append_assoc (ex p.0) (ey p.1) s) ∙ e ∙ append_assoc (ex q.0) (ey q.1) t in
      let g = first_prefix_free p.0 q.0 _ _ v.0 w.0 f in
      (g, append_cancel_left (ex q.0) _ _ (ap (λ u. u ++ (ey p.1 ++ s)) (sym g) ∙ f))

  -- what is written is bytes
  pub sequence_bytes : ((x : X) → WX x → AreBytes (ex x)) → ((y : Y) → WY y → AreBytes (ey y)) → (p : X × Y)
      → IsWritableSequence WX WY p → AreBytes (sequence_enc ex ey p)
  sequence_bytes first second p w = bytes_append (ex p.0) (ey p.1) (first p.0 w.0) (second p.1 w.1)

  module _ (second_prefix_free : IsPrefixFree ey WY) where
    -- no encoding of two values is a proper prefix of that of two others
    pub sequence_prefix_free : IsPrefixFree (sequence_enc ex ey) (IsWritableSequence WX WY)
    sequence_prefix_free p q s t v w e =
        let f = split_sequence p q s t v w e in
        let a : ex p.0 ≡ ex q.0 = f.0 in
        let b : ey p.1 ≡ ey q.1 = second_prefix_free p.1 q.1 s t v.1 w.1 f.1 in
        cc

    -- where two encodings of pairs are the same, so are both halves
    same_halves : (p q : X × Y) → IsWritableSequence WX WY p → IsWritableSequence WX WY q
        → sequence_enc ex ey p ≡ sequence_enc ex ey q → (ex p.0 ≡ ex q.0) × (ey p.1 ≡ ey q.1)
    same_halves p q v w e =
        let f = split_sequence p q [] [] v w (ap (λ u. u ++ []) e) in
        (f.0, second_prefix_free p.1 q.1 [] [] v.1 w.1 f.1)

    -- two values are equal to two others exactly where their bytes are
    pub sequence_canonical : (first_eq : X → X → Bool) (second_eq : Y → Y → Bool) → CanonicalLaws ex WX first_eq
        → CanonicalLaws ey WY second_eq
        → CanonicalLaws (sequence_enc ex ey) (IsWritableSequence WX WY) (λ p q. first_eq p.0 q.0 && second_eq p.1 q.1)
    sequence_canonical first_eq second_eq a b = record {
      equal_by_bytes = λ p q v w. (
        (λ e.
            let h = and_parts (first_eq p.0 q.0) (second_eq p.1 q.1) e in
            let x : ex p.0 ≡ ex q.0 = (a.equal_by_bytes p.0 q.0 v.0 w.0).0 h.0 in
            let y : ey p.1 ≡ ey q.1 = (b.equal_by_bytes p.1 q.1 v.1 w.1).0 h.1 in
            (λ j. x j ++ y j)),
        (λ e.
            let h = same_halves p q v w e in
            and_from (first_eq p.0 q.0) (second_eq p.1 q.1) ((a.equal_by_bytes p.0 q.0 v.0 w.0).1 h.0)
            ((b.equal_by_bytes p.1 q.1 v.1 w.1).1 h.1)),
      );
      writable_together = λ p q e v. let h = and_parts (first_eq p.0 q.0) (second_eq p.1 q.1) e in
          (a.writable_together p.0 q.0 h.0 v.0, b.writable_together p.1 q.1 h.1 v.1);
    }

    module _ (AX : X → Type 0) (fx : List ℕ → Fault → Type 0) (first_laws : ReadLaws ex WX AX fx)
        (AY : X → Y → Type 0) (fy : X → List ℕ → Fault → Type 0) (second_laws : (x : X) → ReadLaws ey WY (AY x) (fy x))
        (allowed_same : (x z : X) (y : Y) → WX x → WX z → ex x ≡ ex z → AY x y → AY z y)
        (fault_same : (x z : X) (s : List ℕ) (f : Fault) → WX x → WX z → ex x ≡ ex z → fy x s f → fy z s f) where
      -- what is accepted first has one encoding, and the same follows
      same_first : (s : List ℕ) (x z : X) (r t : List ℕ) → Accepts ex WX AX s x r → Accepts ex WX AX s z t
          → (ex x ≡ ex z) × (r ≡ t)
      same_first s x z r t a b =
          let e : ex x ++ r ≡ ex z ++ t = sym a.begins ∙ b.begins in
          let g = first_prefix_free x z r t a.writable b.writable e in
          (g, append_cancel_left (ex z) r t (ap (λ u. u ++ r) (sym g) ∙ e))

      -- of two values that are accepted the first is
      first_of_both : (s : List ℕ) (p : X × Y) (r : List ℕ)
          → Accepts (sequence_enc ex ey) (IsWritableSequence WX WY) (IsAllowedSequence AX AY) s p r
          → Accepts ex WX AX s p.0 (ey p.1 ++ r)
      first_of_both s p r a =
          record {
            writable = a.writable.0;
            allowed = a.allowed.0;
            begins = a.begins ∙ append_assoc (ex p.0) (ey p.1) r;
          }

      -- an input that begins with two values has no fault
      no_fault : (s : List ℕ) (p : X × Y) (r : List ℕ) (f : Fault)
          → Accepts (sequence_enc ex ey) (IsWritableSequence WX WY) (IsAllowedSequence AX AY) s p r
          → SequenceFault ex WX AX fx fy s f → ⊥
      no_fault s p r f a (bad_first w) = first_laws.accepted_no_fault s p.0 (ey p.1 ++ r) f (first_of_both s p r a) w
      no_fault s p r f a (bad_second x t b w) =
          let e = same_first s x p.0 t (ey p.1 ++ r) b (first_of_both s p r a) in
          (second_laws p.0).accepted_no_fault t p.1 r f
          (record { writable = a.writable.1; allowed = a.allowed.1; begins = e.1 })
          (fault_same x p.0 t f b.writable a.writable.0 e.0 w)

      -- two faults of an input are in one error case
      pub sequence_one_case :
          (s : List ℕ) (f g : Fault) (v : SequenceFault ex WX AX fx fy s f) (w : SequenceFault ex WX AX fx fy s g)
          → sequence_case v ≡ sequence_case w
      sequence_one_case s f g (bad_first v) (bad_first w) = refl
      sequence_one_case s f g (bad_first v) (bad_second x t b w) = absurd (first_laws.accepted_no_fault s x t f b v)
      sequence_one_case s f g (bad_second x t b v) (bad_first w) = absurd (first_laws.accepted_no_fault s x t g b w)
      sequence_one_case s f g (bad_second x t b v) (bad_second z u c w) = refl

      -- an input has at most one fault
      one : (s : List ℕ) (f g : Fault) → SequenceFault ex WX AX fx fy s f → SequenceFault ex WX AX fx fy s g → f ≡ g
      one s f g (bad_first v) (bad_first w) = first_laws.one_fault s f g v w
      one s f g (bad_first v) (bad_second x t b w) = absurd (first_laws.accepted_no_fault s x t f b v)
      one s f g (bad_second x t b v) (bad_first w) = absurd (first_laws.accepted_no_fault s x t g b w)
      one s f g (bad_second x t b v) (bad_second z u c w) =
          let e = same_first s x z t u b c in
          (second_laws z).one_fault u f g (subst (λ k. fy z k f) e.1 (fault_same x z t f b.writable c.writable e.0 v)) w

      -- the laws of the encodings of two values
      pub sequence_laws :
          ReadLaws (sequence_enc ex ey) (IsWritableSequence WX WY) (IsAllowedSequence AX AY)
          (SequenceFault ex WX AX fx fy)
      sequence_laws = record {
        allowed_by_bytes = λ p q v w e h.
            (let f = same_halves p q v w e in (
              first_laws.allowed_by_bytes p.0 q.0 v.0 w.0 f.0 h.0,
              (second_laws q.0).allowed_by_bytes p.1 q.1 v.1 w.1 f.1 (allowed_same p.0 q.0 p.1 v.0 w.0 f.0 h.1),
            ));
        one_fault = one;
        accepted_no_fault = no_fault;
        accepted_or_faulty = λ s h. elim (first_laws.accepted_or_faulty s h) [
          | inr w ↦ inr (w.0, bad_first w.1)
          | inl w ↦ elim
              ((second_laws w.0).accepted_or_faulty w.1 (bytes_right (ex w.0) w.1 (subst AreBytes w.2.begins h))) [
                | inr v ↦ inr (v.0, bad_second w.0 w.1 w.2 v.1)
                | inl v ↦ inl (
                  (w.0, v.0),
                  v.1,
                  record {
                    writable = (w.2.writable, v.2.writable);
                    allowed = (w.2.allowed, v.2.allowed);
                    begins = w.2.begins ∙ ap (λ u. ex w.0 ++ u) v.2.begins ∙ sym (append_assoc (ex w.0) (ey v.0) v.1);
                  },
                )
              ]
        ];
      }
