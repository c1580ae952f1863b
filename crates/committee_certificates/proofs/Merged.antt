-- What a walk along two strictly increasing lists keeps.
use Rattle.std.proofs.Common.{◌≡◌, ◌⊎◌, inl, inr, ℕ, suc, ◌+◌, ◌<◌, ◌≤◌, Bool, true, false, cond, List, [], ◌∷◌, ◌++◌, append-nil, append_assoc, drop, filter, length, get_or, refl, ap, subst, sym, ◌∙◌, arith, ⊎_elim}
use Rattle.std.specs.Prelude.{All}
use Rattle.std.specs.List.{list_any}
use Rattle.std.specs.Cmp.{IsTotalOrder}
use Rattle.std.specs.Ordering.{is_eq, ordering_reverse}
use Rattle.std.specs.declared.cmp.Ordering.{Ordering}
use Rattle.std.specs.declared.cmp.Ordering.TheVariants.{Less, Equal, Greater}
use Rattle.std.proofs.lemmas.Bool.{cases_lt}
use Rattle.std.proofs.lemmas.List.{drop_all, drop_more, get_or_default, get_or-drop, length-drop}
use Rattle.std.proofs.lemmas.List.Folds.{list_any_none, list_any_at}
use Rattle.std.proofs.lemmas.Map.Keys.{Less-from_sorted}
use Rattle.commonware_ordered.specs.Strict.{IsStrict}
use Rattle.commonware_ordered.specs.laws.StrictLaws.{sorted_from_strict}
use Rattle.committee_certificates.specs.Shared.{shared_by}

-- nothing is kept where no item passes
filter_none : {T : Type 0} (p : T → Bool) (xs : List T) → All (λ x. p x ≡ false) xs → filter p xs ≡ []
filter_none p [] all = refl
filter_none p (x ∷ xs) all =
    let rest = filter_none p xs (λ k d h. all (suc k) d (omega arith)) in
    let here : p x ≡ false = all 0 x (omega arith) in
    rw here rest

-- an item of a list that has a place
pub item_of : {T : Type 0} (xs : List T) (i : ℕ) → i < length xs → T
item_of [] i h = absurd (omega arith)
item_of (x ∷ xs) i h = x

module _ {T : Type 0} (cmp : T → T → Ordering) (eq : T → T → Bool) (first second : List T) where
  -- After i items of the first list and j of the second: what is kept and what is shared by those left are all that is
  -- shared, and those walked past in the second are less than those left in the first.
  pub record IsMerged (i j : ℕ) (kept : List T) : Type 0 where
    pub same : kept ++ filter (λ x. list_any (λ y. eq y x) second) (drop i first) ≡ shared_by eq first second
    pub passed : (d : T) (b : ℕ) → b < j → i < length first → cmp (get_or second b d) (get_or first i d) ≡ Less

  pub merged_start : IsMerged 0 0 []
  merged_start = record { same = refl; passed = λ d b h. absurd (omega arith) }

module _ {T : Type 0} (cmp : T → T → Ordering) (eq : T → T → Bool) (o : IsTotalOrder cmp) (ties : (x y : T) → eq x y ≡ is_eq (cmp x y))
    (first second : List T) (s : IsStrict cmp first) (t : IsStrict cmp second) where
  -- whether an item equals one of the second list
  abbrev is_in : T → Bool
  is_in x = list_any (λ y. eq y x) second

  -- an earlier item of the first list is less
  first_rises : (i k : ℕ) (d : T) → i < k → k < length first → cmp (get_or first i d) (get_or first k d) ≡ Less
  first_rises i k d before there = Less-from_sorted cmp first i k d (sorted_from_strict o first s) before there

  -- and of the second
  second_rises : (i k : ℕ) (d : T) → i < k → k < length second → cmp (get_or second i d) (get_or second k d) ≡ Less
  second_rises i k d before there = Less-from_sorted cmp second i k d (sorted_from_strict o second t) before there

  -- items of which one is less aren't equal
  unequal_less : (x y : T) → cmp x y ≡ Less → eq x y ≡ false
  unequal_less x y e = ties x y ∙ ap is_eq e

  unequal_greater : (x y : T) → cmp y x ≡ Less → eq x y ≡ false
  unequal_greater x y e = ties x y ∙ (ap is_eq (o.antisymm x y) ∙ ap (λ c. is_eq (ordering_reverse c)) e)

  -- an item that is greater than those before j, and less than the one at j, where there is one, is none of the second
  outside : (x d : T) (j : ℕ) → ((b : ℕ) → b < j → b < length second → cmp (get_or second b d) x ≡ Less)
      → (length second ≤ j) ⊎ (cmp x (get_or second j d) ≡ Less) → is_in x ≡ false
  outside x d j low high = list_any_none (λ y. eq y x) second (λ k c there.
      ap (λ y. eq y x) (get_or_default second k c d there) ∙ ⊎_elim
      (λ before. unequal_less (get_or second k d) x (low k before there))
      (λ after. ⊎_elim
      (λ none. absurd (omega arith))
      (λ less. unequal_greater (get_or second k d) x (⊎_elim
      (λ past. o.trans x (get_or second j d) (get_or second k d) less (second_rises j k d past there))
      (λ at. let e : j ≡ k = omega arith in subst (λ n. cmp x (get_or second n d) ≡ Less) e less)
      (cases_lt j k)))
      high)
      (cases_lt k j))

  module _ {i j : ℕ} {kept : List T} (d : T) (i_in : i < length first) (j_in : j < length second) (w : IsMerged cmp eq first second i j kept) where
    -- the next item is none of the second list
    pub merged_less : cmp (get_or first i d) (get_or second j d) ≡ Less → IsMerged cmp eq first second (i + 1) j kept
    merged_less less =
        let x = get_or first i d in
        let none : is_in x ≡ false = outside x d j (λ b h there. w.passed d b h i_in) (inr less) in
        record {
          same =
              let opened = subst (λ l. kept ++ filter is_in l ≡ shared_by eq first second) (drop_more first i d i_in) w.same in
              subst (λ b. kept ++ cond b (x ∷ filter is_in (drop (i + 1) first)) (filter is_in (drop (i + 1) first)) ≡ shared_by eq first second) none opened;
          passed = λ c b h there. o.trans (get_or second b c) (get_or first i c) (get_or first (i + 1) c) (w.passed c b h i_in) (first_rises i (i + 1) c (omega arith) there);
        }

    -- the next item of the second list is less than those left
    pub merged_greater : cmp (get_or first i d) (get_or second j d) ≡ Greater → IsMerged cmp eq first second i (j + 1) kept
    merged_greater greater =
        let less : cmp (get_or second j d) (get_or first i d) ≡ Less = o.antisymm (get_or second j d) (get_or first i d) ∙ ap ordering_reverse greater in
        record {
          same = w.same;
          passed = λ c b h there. ⊎_elim
              (λ before. w.passed c b before there)
              (λ at.
              let e : j ≡ b = omega arith in
              let one = subst (λ z. cmp z (get_or first i d) ≡ Less) (get_or_default second j d c j_in) less in
              let two = subst (λ z. cmp (get_or second j c) z ≡ Less) (get_or_default first i d c i_in) one in
              subst (λ n. cmp (get_or second n c) (get_or first i c) ≡ Less) e two)
              (cases_lt b j);
        }

    -- both are equal
    pub merged_equal : cmp (get_or first i d) (get_or second j d) ≡ Equal → IsMerged cmp eq first second (i + 1) (j + 1) (kept ++ get_or first i d ∷ [])
    merged_equal equal =
        let x = get_or first i d in
        let rest = drop (i + 1) first in
        let turned : cmp (get_or second j d) x ≡ Equal = o.antisymm (get_or second j d) x ∙ ap ordering_reverse equal in
        let some : is_in x ≡ true = list_any_at (λ y. eq y x) second j d j_in (ties (get_or second j d) x ∙ ap is_eq turned) in
        record {
          same =
              let opened = subst (λ l. kept ++ filter is_in l ≡ shared_by eq first second) (drop_more first i d i_in) w.same in
              let here = subst (λ b. kept ++ cond b (x ∷ filter is_in rest) (filter is_in rest) ≡ shared_by eq first second) some opened in
              append_assoc kept (x ∷ []) (filter is_in rest) ∙ here;
          passed = λ c b h there.
              let next = first_rises i (i + 1) c (omega arith) there in
              ⊎_elim
              (λ before. o.trans (get_or second b c) (get_or first i c) (get_or first (i + 1) c) (w.passed c b before i_in) next)
              (λ at.
              let e : j ≡ b = omega arith in
              let one = subst (λ z. cmp z x ≡ Equal) (get_or_default second j d c j_in) turned in
              let two = subst (λ z. cmp (get_or second j c) z ≡ Equal) (get_or_default first i d c i_in) one in
              let moved = o.congr (get_or second j c) (get_or first i c) (get_or first (i + 1) c) two ∙ next in
              subst (λ n. cmp (get_or second n c) (get_or first (i + 1) c) ≡ Less) e moved)
              (cases_lt b j);
        }

  -- where one list is walked through, what is kept is what is shared
  pub merged_end : {i j : ℕ} {kept : List T} → (length first ≤ i) ⊎ (length second ≤ j) → IsMerged cmp eq first second i j kept → kept ≡ shared_by eq first second
  merged_end {i} {j} {kept} (inl h) w =
      let none : drop i first ≡ [] = drop_all i first h in
      sym (append-nil kept) ∙ subst (λ l. kept ++ filter is_in l ≡ shared_by eq first second) none w.same
  merged_end {i} {j} {kept} (inr h) w =
      let none : filter is_in (drop i first) ≡ [] = filter_none is_in (drop i first) (λ k d there.
      let e = get_or-drop i first k d in
      let inside : i + k < length first = room i k there in
      ap is_in e ∙ outside (get_or first (i + k) d) d j
      (λ b before in_second. ⊎_elim
      (λ later. o.trans (get_or second b d) (get_or first i d) (get_or first (i + k) d) (w.passed d b before (omega arith)) (first_rises i (i + k) d later inside))
      (λ at. let e : i ≡ i + k = omega arith in subst (λ n. cmp (get_or second b d) (get_or first n d) ≡ Less) e (w.passed d b before (omega arith)))
      (cases_lt i (i + k)))
      (inl h)) in
      sym (append-nil kept) ∙ subst (λ l. kept ++ l ≡ shared_by eq first second) none w.same
    where
      room : (i k : ℕ) → k < length (drop i first) → i + k < length first
      room i k there = let e = length-drop i first in omega arith
