-- What a walk along two lists of rising indices keeps, whatever the places are.
use Rattle.std.proofs.Common.{◌≡◌, ℕ, suc, ◌+◌, ◌<◌, ◌≤◌, ◌⊎◌, inl, inr, true, false, List, [], ◌∷◌, ◌++◌, append-nil, append_assoc, length}
use Rattle.std.proofs.Common.{refl, ap, sym, ◌∙◌, arith, length-append, true≢false}
use Rattle.std.specs.Ordering.{MatchOrdering, is_gt, is_lt, nat_cmp}
use Rattle.std.specs.declared.cmp.Ordering.{Ordering}
use Rattle.std.specs.declared.cmp.Ordering.TheVariants.{Less, Equal, Greater}
use Rattle.commonware_ordered.specs.Strict.{IsStrict}
use Rattle.commonware_ordered.specs.laws.PositionLaws.{RisesFrom, rises_from_strict, rises_lower}
use Rattle.committee_certificates.proofs.Both.{AreInBoth-common, common, common_equal, common_greater, common_less, common_none}
use Rattle.committee_certificates.proofs.Walked.{written_none}
use Rattle.committee_certificates.specs.InPlace.{AreWrittenBoth, written}

-- what an order says where it tests less
pub told_less : (x y : ℕ) (o : Ordering) → MatchOrdering o (x < y) (x ≡ y) (y < x) → is_lt o ≡ true → x < y
told_less x y Less p e = p
told_less x y Equal p e = absurd (true≢false (sym e))
told_less x y Greater p e = absurd (true≢false (sym e))

-- where it tests greater
pub told_greater : (x y : ℕ) (o : Ordering) → MatchOrdering o (x < y) (x ≡ y) (y < x) → is_gt o ≡ true → y < x
told_greater x y Less p e = absurd (true≢false (sym e))
told_greater x y Equal p e = absurd (true≢false (sym e))
told_greater x y Greater p e = p

-- and elsewhere
pub told_same : (x y : ℕ) (o : Ordering) → MatchOrdering o (x < y) (x ≡ y) (y < x) → is_lt o ≡ false
    → is_gt o ≡ false → x ≡ y
told_same x y Less p e f = absurd (true≢false e)
told_same x y Equal p e f = p
told_same x y Greater p e f = absurd (true≢false f)

module _ (P : Type 0) (IsAt : P → List ℕ → Type 0) where
  -- Along two lists of signers the indices in both before the two places are `kept`, and they are written to the room.
  pub record ArePassed (first second : List ℕ) (one two : P) (count : ℕ) (old_room new_room : List ℕ) : Type 0 where
    pub kept : List ℕ
    pub firsts : List ℕ
    pub seconds : List ℕ
    pub at_first : IsAt one firsts
    pub at_second : IsAt two seconds
    pub firsts_rise : RisesFrom 0 firsts
    pub seconds_rise : RisesFrom 0 seconds
    pub same : kept ++ common firsts seconds ≡ common first second
    pub count_is : count ≡ length kept
    pub room : new_room ≡ written kept old_room

  -- none is before the first places
  pub both_none : (first second : List ℕ) (one two : P) (room : List ℕ) → IsStrict nat_cmp first
      → IsStrict nat_cmp second → IsAt one first → IsAt two second → ArePassed first second one two 0 room room
  both_none first second one two room s t at_first at_second = record {
    kept = [];
    firsts = first;
    seconds = second;
    at_first = at_first;
    at_second = at_second;
    firsts_rise = rises_from_strict first s;
    seconds_rise = rises_from_strict second t;
    same = refl;
    count_is = refl;
    room = sym (written_none room);
  }

  -- what the place after another is
  abbrev pub IsNext : P → P → Type 0
  IsNext cursor next = (index : ℕ) (rest : List ℕ) → IsAt cursor (index ∷ rest) → IsAt next rest

  module _ (left index : P → ℕ) (at_end : (place : P) → IsAt place [] → left place ≡ 0)
      (at_index : (place : P) (i : ℕ) (indices : List ℕ) → IsAt place (i ∷ indices)
      → (left place ≡ suc (length indices)) × (index place ≡ i)) where
    -- as many are left as there are
    pub left_is : (place : P) (indices : List ℕ) → IsAt place indices → left place ≡ length indices
    left_is place [] at = at_end place at
    left_is place (i ∷ indices) at = (at_index place i indices at).0

    -- after an index one fewer is left
    pub one_fewer : (place next : P) (indices : List ℕ) → IsAt place indices → 0 < left place → IsNext place next
        → left place ≡ left next + 1
    one_fewer place next [] at some step = absurd (omega (arith, at_end place at, some))
    one_fewer place next (i ∷ indices) at some step =
        omega (arith, (at_index place i indices at).0, left_is next indices (step i indices at))

    module _ (first second : List ℕ) (one two : P) (count : ℕ) (old_room room : List ℕ)
        (p : ArePassed first second one two count old_room room) where
      module _ (first_left : 0 < left one) (second_left : 0 < left two) where
        -- there is an index at both places
        opened : {Goal : Type 0}
            → ((x y : ℕ) (xs ys : List ℕ) → IsAt one (x ∷ xs) → IsAt two (y ∷ ys) → RisesFrom 0 (x ∷ xs)
            → RisesFrom 0 (y ∷ ys) → p.kept ++ common (x ∷ xs) (y ∷ ys) ≡ common first second → Goal) → Goal
        opened {Goal} then = go p.firsts p.seconds p.at_first p.at_second p.firsts_rise p.seconds_rise p.same
          where
            go : (xs ys : List ℕ) → IsAt one xs → IsAt two ys → RisesFrom 0 xs → RisesFrom 0 ys
                → p.kept ++ common xs ys ≡ common first second → Goal
            go [] ys at at' r r' same = absurd (omega (arith, at_end one at, first_left))
            go (x ∷ xs) [] at at' r r' same = absurd (omega (arith, at_end two at', second_left))
            go (x ∷ xs) (y ∷ ys) at at' r r' same = then x y xs ys at at' r r' same

        -- the first one is less
        pub both_less : (next : P) → index one < index two → IsNext one next
            → ArePassed first second next two count old_room room
        both_less next less step = opened (λ x y xs ys at at' r r' same. record {
          kept = p.kept;
          firsts = xs;
          seconds = y ∷ ys;
          at_first = step x xs at;
          at_second = at';
          firsts_rise = rises_lower (x + 1) 0 xs (omega arith) r.1;
          seconds_rise = r';
          same = ap (λ l. p.kept ++ l) (sym (common_less x y xs ys (omega (arith, less, (at_index one x xs at).1, (at_index two y ys at').1)) r')) ∙ same;
          count_is = p.count_is;
          room = p.room;
        })

        -- the second one is
        pub both_greater : (next : P) → index two < index one → IsNext two next
            → ArePassed first second one next count old_room room
        both_greater next less step = opened (λ x y xs ys at at' r r' same. record {
          kept = p.kept;
          firsts = x ∷ xs;
          seconds = ys;
          at_first = at;
          at_second = step y ys at';
          firsts_rise = r;
          seconds_rise = rises_lower (y + 1) 0 ys (omega arith) r'.1;
          same = ap (λ l. p.kept ++ l) (sym (common_greater x y xs ys (omega (arith, less, (at_index one x xs at).1, (at_index two y ys at').1)) r)) ∙ same;
          count_is = p.count_is;
          room = p.room;
        })

        -- they are the same, which is put
        pub both_equal : (next next' : P) (new_room : List ℕ) → index one ≡ index two → IsNext one next
            → IsNext two next'
            → ((before room' : List ℕ) → count ≡ length before → room ≡ written before room'
            → new_room ≡ written (before ++ index one ∷ []) room')
            → ArePassed first second next next' (count + 1) old_room new_room
        both_equal next next' new_room same_index step step' put = opened (λ x y xs ys at at' r r' same. record {
          kept = p.kept ++ index one ∷ [];
          firsts = xs;
          seconds = ys;
          at_first = step x xs at;
          at_second = step' y ys at';
          firsts_rise = rises_lower (x + 1) 0 xs (omega arith) r.1;
          seconds_rise = rises_lower (y + 1) 0 ys (omega arith) r'.1;
          same =
              let is : y ≡ x = omega (arith, same_index, (at_index one x xs at).1, (at_index two y ys at').1) in
              let here : common (x ∷ xs) (y ∷ ys) ≡ x ∷ common xs ys =
              ap (λ z. common (x ∷ xs) (z ∷ ys)) is ∙ common_equal x xs ys r in
              append_assoc p.kept (index one ∷ []) (common xs ys) ∙ ap (λ i. p.kept ++ i ∷ common xs ys) (at_index one x xs at).1
              ∙ ap (λ l. p.kept ++ l) (sym here) ∙ same;
          count_is = let n = length-append p.kept (index one ∷ []) in omega (arith, n, p.count_is);
          room = put p.kept old_room p.count_is p.room;
        })

      -- where no index is left at one of the places, all that are in both are written
      pub both_all : (left one ≤ 0) ⊎ (left two ≤ 0) → IsStrict nat_cmp first
          → AreWrittenBoth first second count old_room room
      both_all over strict = record {
        both = common first second;
        in_both = AreInBoth-common first second strict;
        count_is = p.count_is ∙ ap length all;
        room = p.room ∙ ap (λ l. written l old_room) all;
      }
        where
          rest_none : (xs ys : List ℕ) → IsAt one xs → IsAt two ys → common xs ys ≡ []
          rest_none [] ys at at' = refl
          rest_none (x ∷ xs) [] at at' = common_none (x ∷ xs)
          rest_none (x ∷ xs) (y ∷ ys) at at' = absurd (elim over [
            | inl h ↦ omega (arith, h, (at_index one x xs at).0)
            | inr h ↦ omega (arith, h, (at_index two y ys at').0)
          ])

          all : p.kept ≡ common first second
          all =
              sym (append-nil p.kept)
              ∙ ap (λ l. p.kept ++ l) (sym (rest_none p.firsts p.seconds p.at_first p.at_second)) ∙ p.same
