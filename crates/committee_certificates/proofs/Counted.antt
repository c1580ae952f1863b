-- Signers that are read one by one, and only counted.
use Rattle.std.proofs.Common.{◌≡◌, ℕ, zero, suc, ◌+◌, ◌<◌, ◌≤◌, ◌^◌, Bool, true, List, [], ◌∷◌, ◌++◌, refl, sym, arith, subst, get_or, length, inl, inr, ◌↔◌, ◌∙◌}
use Rattle.std.specs.Cmp.{nat_cmp_is}
use Rattle.std.specs.List.{flat_map}
use Rattle.std.specs.Ordering.{nat_cmp}
use Rattle.std.specs.declared.cmp.Ordering.TheVariants.{Less}
use Rattle.std.proofs.lemmas.Bool.{cases_lt}
use Rattle.std.proofs.lemmas.List.{append_assoc}
use Rattle.std.proofs.lemmas.List.Elements.{All-cons, All-head, All-tail}
use Rattle.commonware_base.specs.declared.codec.source.Source.{Source}
use Rattle.commonware_base.specs.declared.codec.error.Error.{Error}
use Rattle.commonware_base.specs.Fault.{InvalidLength}
use Rattle.commonware_base.specs.Lists.{bad_varint, list_enc}
use Rattle.commonware_base.specs.Range.{Bounds, Within}
use Rattle.commonware_base.specs.Refusal.{Refuses}
use Rattle.commonware_base.specs.Source.{Consumes, rest_of}
use Rattle.commonware_base.specs.Varint.{varint, varint_fault}
use Rattle.commonware_base.specs.Words.{IsWord}
use Rattle.commonware_base.specs.Text.{Accepts}
use Rattle.commonware_base.specs.laws.RefusalLaws.{refuses_from}
use Rattle.commonware_base.specs.laws.VarintLaws.{varint_split}
use Rattle.commonware_base.proofs.ReadSteps.{ReadSoFar, read_all, read_all_allowed, read_all_writable, read_faulty, read_more, read_none, read_outside}
use Rattle.commonware_ordered.specs.Sets.{bad_list, bad_order, IsWritableSet, unsorted_fault}
use Rattle.commonware_ordered.specs.Strict.{IsStrict}
use Rattle.committee_certificates.specs.Certificates.{AreAllowedSigners, SignersFault}
use Rattle.committee_certificates.specs.InPlace.{AreSignersAt}
use Rattle.committee_certificates.specs.Signers.{AreMembers, HasOutsider}
use Rattle.commonware_ordered.specs.laws.PositionLaws.{RisesFrom, members_from_last, rises_from_strict}

-- the number after the last one, or low where there is none
abbrev pub end_of : ℕ → List ℕ → ℕ
end_of low [] = low
end_of low (x ∷ xs) = end_of (x + 1) xs

-- with one more number last
end_more : (low : ℕ) (xs : List ℕ) (y : ℕ) → end_of low (xs ++ y ∷ []) ≡ y + 1
end_more low [] y = refl
end_more low (x ∷ xs) y = end_more (x + 1) xs y

-- numbers that rise do so with one more last, where that is at least their end
rises_more : (low : ℕ) (xs : List ℕ) (y : ℕ) → RisesFrom low (xs ++ y ∷ []) ↔ (RisesFrom low xs × (end_of low xs ≤ y))
rises_more low [] y = (λ r. (tt, r.0), λ w. (w.1, tt))
rises_more low (x ∷ xs) y =
    let rest = rises_more (x + 1) xs y in
    (λ r. let a = rest.0 r.1 in ((r.0, a.0), a.1), λ w. (w.0.0, rest.1 (w.0.1, w.1)))

-- the end is no less than the start
end_at_least : (low : ℕ) (xs : List ℕ) → RisesFrom low xs → low ≤ end_of low xs
end_at_least low [] r = omega arith
end_at_least low (x ∷ xs) r = let rest = end_at_least (x + 1) xs r.1 in omega (arith, r.0, rest)

-- numbers that rise are strictly increasing
strict_from_rises : (low : ℕ) (xs : List ℕ) → RisesFrom low xs → IsStrict nat_cmp xs
strict_from_rises low [] r k d high = absurd (omega arith)
strict_from_rises low (x ∷ []) r k d high = absurd (omega arith)
strict_from_rises low (x ∷ y ∷ ys) r zero d high = sym (nat_cmp_is x y Less (omega (arith, r.1.0)))
strict_from_rises low (x ∷ y ∷ ys) r (suc k) d high =
    let e : suc (k + 1) ≡ suc k + 1 = omega arith in
    subst (λ n. nat_cmp (get_or (y ∷ ys) k d) (get_or (x ∷ y ∷ ys) n d) ≡ Less) e
    (strict_from_rises (x + 1) (y ∷ ys) r.1 k d (omega arith))

-- numbers that rise are below n exactly where their end is up to n
members_from_end : (n low : ℕ) (xs : List ℕ) → RisesFrom low xs → end_of low xs ≤ n → AreMembers n xs
members_from_end n low [] r h = λ k d w. absurd (omega arith)
members_from_end n low (x ∷ xs) r h =
    All-cons (λ y. y < n) x xs (omega (arith, end_at_least (x + 1) xs r.1, h)) (members_from_end n (x + 1) xs r.1 h)

end_from_members : (n low : ℕ) (xs : List ℕ) → low ≤ n → AreMembers n xs → end_of low xs ≤ n
end_from_members n low [] h m = h
end_from_members n low (x ∷ xs) h m =
    end_from_members n (x + 1) xs (omega (arith, All-head (λ y. y < n) x xs m)) (All-tail (λ y. y < n) x xs m)

-- The length and `done` indices were read, of which the end is `past`, and which rise or don't.
pub record CountedSoFar (range : Bounds ℕ) (count done : ℕ) (start now : Source) (past : ℕ) (rising : Bool) : Type 0 where
  pub items : List ℕ
  pub read : ReadSoFar varint IsWord (λ _. Unit {0}) range count done start now items
  pub past_is : past ≡ end_of 0 items
  pub rising_is : (rising ≡ true) ↔ RisesFrom 0 items

module _ (range : Bounds ℕ) (count : ℕ) (start : Source) where
  -- none was read yet
  pub counted_none : (now : Source) → count < 2 ^ 32 → Within range count → Consumes start now (varint count)
      → CountedSoFar range count 0 start now 0 true
  counted_none now h w t = record {
    items = [];
    read = read_none varint IsWord (λ _. Unit {0}) range count start now h w t;
    past_is = refl;
    rising_is = (λ _. tt, λ _. refl);
  }

  module _ (done past : ℕ) (rising : Bool) (now : Source) (s : CountedSoFar range count done start now past rising) where
    -- one more was read
    pub counted_more : (next : Source) (index : ℕ) (still : Bool) → index < 2 ^ 32 → Consumes now next (varint index)
        → ((still ≡ true) ↔ ((rising ≡ true) × (past ≤ index)))
        → CountedSoFar range count (done + 1) start next (index + 1) still
    counted_more next index still h t is =
        let more = rises_more 0 s.items index in
        record {
          items = s.items ++ index ∷ [];
          read =
              read_more varint IsWord (λ _. Unit {0}) range count start done now next s.items index s.read
              (record { writable = h; allowed = tt; begins = t.rest }) t;
          past_is = sym (end_more 0 s.items index);
          rising_is = (
            λ e. let w = is.0 e in more.1 (s.rising_is.0 w.0, omega (arith, s.past_is, w.1)),
            λ r. let w = more.0 r in is.1 (s.rising_is.1 w.0, omega (arith, s.past_is, w.1)),
          );
        }

    -- a fault of the next one is the signers'
    pub counted_faulty : (error : Error) → done < count → Refuses (varint_fault (rest_of now)) (Unit {0}) error
        → Refuses (SignersFault range (rest_of start)) (Unit {0}) error
    counted_faulty error h w =
        refuses_from (varint_fault (rest_of now)) (SignersFault range (rest_of start)) (Unit {0}) (Unit {0})
        (λ f v. bad_list (read_faulty varint IsWord (λ _. Unit {0}) range count start varint_fault (λ _. Unit {0}) done now
        s.items f s.read h v)) (λ never. never) error w

  module _ (past : ℕ) (rising : Bool) (now : Source) (s : CountedSoFar range count count start now past rising) where
    -- all were read, and they rise
    pub counted_all : rising ≡ true → (begun : Source) → Consumes start begun (varint count)
        → (indices : List ℕ) × Accepts (list_enc varint) (IsWritableSet IsWord nat_cmp) (AreAllowedSigners range)
        (rest_of start) indices (rest_of now) × Consumes start now (list_enc varint indices)
        × AreSignersAt (record { start = begun; count = count; past = past }) indices
    counted_all e begun taken =
        let rises = s.rising_is.0 e in
        let strict = strict_from_rises 0 s.items rises in
        let all = read_all varint IsWord (λ _. Unit {0}) range count start now s.items s.read in
        let from_both : varint count ++ rest_of begun ≡ varint count ++ (flat_map varint s.items ++ rest_of now) =
        sym taken.rest ∙ s.read.taken.rest ∙ append_assoc (varint count) (flat_map varint s.items) (rest_of now) in (
          s.items,
          record {
            writable = record {
              list = read_all_writable varint IsWord (λ _. Unit {0}) range count start now s.items s.read;
              strict = strict;
            };
            allowed = read_all_allowed varint IsWord (λ _. Unit {0}) range count start now s.items s.read;
            begins = all.rest;
          },
          all,
          record {
            strict = strict;
            words = s.read.writable;
            count_is = sym s.read.done_is;
            past_is = λ n. (
              λ m. subst (λ p. p ≤ n) (sym s.past_is) (end_from_members n 0 s.items (omega arith) m),
              λ h. members_from_end n 0 s.items rises (subst (λ p. p ≤ n) s.past_is h),
            );
            rest = rest_of now;
            begins = (varint_split count count (rest_of begun) (flat_map varint s.items ++ rest_of now) s.read.short s.read.short from_both).1;
          },
        )

    -- they don't
    pub counted_unsorted : ¬ (rising ≡ true) → SignersFault range (rest_of start) unsorted_fault
    counted_unsorted never = bad_order refl (record {
      items = s.items;
      rest = rest_of now;
      begins = (read_all varint IsWord (λ _. Unit {0}) range count start now s.items s.read).rest;
      writable = read_all_writable varint IsWord (λ _. Unit {0}) range count start now s.items s.read;
      allowed = read_all_allowed varint IsWord (λ _. Unit {0}) range count start now s.items s.read;
      unsorted = λ strict. never (s.rising_is.1 (rises_from_strict s.items strict));
    })

  -- a length out of the range
  pub counted_outside : (now : Source) → count < 2 ^ 32 → ¬ Within range count → Consumes start now (varint count)
      → SignersFault range (rest_of start) (InvalidLength count)
  counted_outside now h w t =
      bad_list (read_outside varint IsWord (λ _. Unit {0}) range count start varint_fault (λ _. Unit {0}) now h w t)

-- no length
pub counted_no_length : (range : Bounds ℕ) (text : List ℕ) (error : Error) → Refuses (varint_fault text) (Unit {0}) error
    → Refuses (SignersFault range text) (Unit {0}) error
counted_no_length range text error w =
    refuses_from (varint_fault text) (SignersFault range text) (Unit {0}) (Unit {0}) (λ f v. bad_list (bad_varint v))
    (λ never. never) error w

-- signers are all members, or one is none
pub outsider_from_not_members : (n : ℕ) (xs : List ℕ) → (¬ AreMembers n xs) → HasOutsider n xs
outsider_from_not_members n [] never = absurd (never (λ k d w. absurd (omega arith)))
outsider_from_not_members n (x ∷ xs) never = elim (cases_lt x n) [
  | inr h ↦ (0, x, omega arith, refl, h)
  | inl h ↦
      let o = outsider_from_not_members n xs (λ m. never (All-cons (λ i. i < n) x xs h m)) in
      (suc o.0, o.1, omega (arith, o.2), o.3, o.4)
]

-- the last of strictly increasing indices decides whether all are members
module _ (n last i : ℕ) (xs : List ℕ) (strict : IsStrict nat_cmp xs) (end : i + 1 ≡ length xs) (at : (d : ℕ) → last ≡ get_or xs i d) where
  pub members_by_last : (last < n) ↔ AreMembers n xs
  members_by_last = (
    λ below. members_from_last n last i xs strict end (at last) below,
    λ all. let here : get_or xs i last < n = all i last (omega (arith, end)) in omega (arith, here, at last),
  )

  pub outsider_by_last : (n ≤ last) ↔ HasOutsider n xs
  outsider_by_last = (
    λ above. (i, last, omega (arith, end), sym (at last), above),
    λ o. elim (cases_lt last n) [
      | inr above ↦ above
      | inl below ↦
          let here : get_or xs o.0 o.1 < n = members_by_last.0 below o.0 o.1 o.2 in
          absurd (omega (arith, here, o.3, o.4))
    ],
  )
