-- What a walk along signers in place keeps.
use Rattle.std.proofs.Common.{◌≡◌, ℕ, suc, ◌+◌, ◌<◌, ◌≤◌, ◌^◌, List, [], ◌∷◌, ◌++◌, append-nil, append_assoc, length, slice_set}
use Rattle.std.proofs.Common.{refl, ap, subst, sym, ◌∙◌, arith, length-append}
use Rattle.std.proofs.Math.Seq.{drop-nil, take-nil}
use Rattle.std.specs.List.{flat_map}
use Rattle.commonware_base.specs.declared.codec.error.Error.{Error}
use Rattle.commonware_base.specs.declared.codec.source.Source.{Source}
use Rattle.commonware_base.specs.Refusal.{Refuses}
use Rattle.commonware_base.specs.Source.{Consumes, rest_of}
use Rattle.commonware_base.specs.Varint.{varint, varint_fault}
use Rattle.commonware_base.specs.laws.RefusalLaws.{fault_of_refusal}
use Rattle.commonware_base.specs.laws.VarintLaws.{varint_no_fault, varint_split}
use Rattle.committee_certificates.specs.Cursors.{GoesOnWith, IsAt}
use Rattle.committee_certificates.specs.InPlace.{written}
use Rattle.committee_certificates.specs.declared.walk.Cursor.{Cursor}

-- one index more, where the room has its place
pub written_more : (before room : List ℕ) (index : ℕ) → length before < length room
    → slice_set (written before room) (length before) index ≡ written (before ++ index ∷ []) room
written_more before [] index h = absurd (omega (arith, h))
written_more [] (r ∷ room) index h = ap (λ t. index ∷ (t ++ room)) (sym (take-nil (length room)))
written_more (b ∷ before) (r ∷ room) index h = ap (λ t. b ∷ t) (written_more before room index (omega (arith, h)))

-- and where it hasn't
pub written_full : (before room : List ℕ) (index : ℕ) → length room ≤ length before
    → written before room ≡ written (before ++ index ∷ []) room
written_full before [] index h = drop-nil (length before) ∙ sym (drop-nil (length (before ++ index ∷ [])))
written_full [] (r ∷ room) index h = absurd (omega (arith, h))
written_full (b ∷ before) (r ∷ room) index h = ap (λ t. b ∷ t) (written_full before room index (omega (arith, h)))

-- none are written
pub written_none : (room : List ℕ) → written [] room ≡ room
written_none room = ap (λ t. t ++ room) (take-nil (length room))

-- the room has its length
pub written_length : (indices room : List ℕ) → length (written indices room) ≡ length room
written_length indices [] = ap length (drop-nil (length indices))
written_length [] (r ∷ room) = refl
written_length (x ∷ indices) (r ∷ room) = ap suc (written_length indices room)

-- the first of the indices that come next
pub at_first : (source next : Source) (left index : ℕ) → index < 2 ^ 32 → Consumes source next (varint index)
    → (indices : List ℕ) → GoesOnWith source indices → left ≡ length indices → 0 < left
    → IsAt (record { left = left; index = index; next = next }) indices
at_first source next left index h taken [] on n some = absurd (omega (arith, n, some))
at_first source next left index h taken (x ∷ indices) on n some =
    let both : varint index ++ rest_of next ≡ varint x ++ (flat_map varint indices ++ on.rest) =
    sym taken.rest ∙ on.begins ∙ append_assoc (varint x) (flat_map varint indices) on.rest in
    let split = varint_split index x (rest_of next) (flat_map varint indices ++ on.rest) h on.words.0 both in
    (n, split.0, record { words = on.words.1; rest = on.rest; begins = split.1 })

-- which are read with no error
not_refused : (source : Source) (error : Error) → Refuses (varint_fault (rest_of source)) (Unit {0}) error
    → (index : ℕ) (indices : List ℕ) → ¬ GoesOnWith source (index ∷ indices)
not_refused source error refused index indices on =
    let fault = fault_of_refusal (varint_fault (rest_of source)) error refused in
    varint_no_fault (rest_of source) index (flat_map varint indices ++ on.rest) fault.0 on.words.0
    (on.begins ∙ append_assoc (varint index) (flat_map varint indices) on.rest) fault.1

-- so a place after an error is one where none is left
pub past_refused : (source : Source) (error : Error) → Refuses (varint_fault (rest_of source)) (Unit {0}) error
    → (cursor : Cursor) → cursor.left ≡ 0 → (indices : List ℕ) → GoesOnWith source indices → IsAt cursor indices
past_refused source error refused cursor none [] on = none
past_refused source error refused cursor none (x ∷ indices) on = absurd (not_refused source error refused x indices on)

-- Along signers the indices before a place are `before`, and they are written to the room.
pub record IsPassed (indices : List ℕ) (cursor : Cursor) (count : ℕ) (old_room new_room : List ℕ) : Type 0 where
  pub before : List ℕ
  pub left : List ℕ
  pub at : IsAt cursor left
  pub same : before ++ left ≡ indices
  pub count_is : count ≡ length before
  pub room : new_room ≡ written before old_room

-- none is before the first
pub passed_none : (indices : List ℕ) (cursor : Cursor) (room : List ℕ) → IsAt cursor indices
    → IsPassed indices cursor 0 room room
passed_none indices cursor room at = record {
  before = [];
  left = indices;
  at = at;
  same = refl;
  count_is = refl;
  room = sym (written_none room);
}

module _ (indices : List ℕ) (cursor : Cursor) (count : ℕ) (old_room room : List ℕ)
    (p : IsPassed indices cursor count old_room room) where
  -- the next one is put
  pub passed_more : (next : Cursor) (new_room : List ℕ) → 0 < cursor.left
      → ((index : ℕ) (rest : List ℕ) → IsAt cursor (index ∷ rest) → IsAt next rest)
      → ((before room' : List ℕ) → count ≡ length before → room ≡ written before room'
      → new_room ≡ written (before ++ cursor.index ∷ []) room')
      → IsPassed indices next (count + 1) old_room new_room
  passed_more next new_room some step put = go p.left refl
    where
      go : (left : List ℕ) → p.left ≡ left → IsPassed indices next (count + 1) old_room new_room
      go [] e = absurd (let none = subst (IsAt cursor) e p.at in omega (arith, none, some))
      go (x ∷ left) e =
          let at = subst (IsAt cursor) e p.at in
          record {
            before = p.before ++ cursor.index ∷ [];
            left = left;
            at = step x left at;
            same =
                append_assoc p.before (cursor.index ∷ []) left
                ∙ ap (λ i. p.before ++ i ∷ left) at.1 ∙ ap (λ l. p.before ++ l) (sym e) ∙ p.same;
            count_is = let n = length-append p.before (cursor.index ∷ []) in omega (arith, n, p.count_is);
            room = put p.before old_room p.count_is p.room;
          }

  -- where none is left, all are written
  pub passed_all : cursor.left ≤ 0 → room ≡ written indices old_room
  passed_all none = go p.left refl
    where
      go : (left : List ℕ) → p.left ≡ left → room ≡ written indices old_room
      go [] e =
          p.room
          ∙ ap (λ l. written l old_room) (sym (append-nil p.before) ∙ ap (λ l. p.before ++ l) (sym e) ∙ p.same)
      go (x ∷ left) e = absurd (let at = subst (IsAt cursor) e p.at in omega (arith, at.0, none))
