-- Answers to numbered lines, one after another.
use Rattle.std.proofs.Common.{◌≡◌, ℕ, ◌+◌, ◌-◌, ◌<◌, ◌≤◌, ◌==◌, ◌&&◌, ◌||◌, Bool, true, false, cond, not, zero, suc, List, [], ◌∷◌, ◌++◌, length, get_or, take, drop, position, Option, Some, None, inl, inr, refl, sym, ap, subst, arith, ◌∙◌, append_assoc, append-nil, take-append-drop, add-one, drop-cons, nat_lt}
use Rattle.std.specs.List.{AllZip, flat_map, list_all, onto_first, position_or_len, slice_split}
use Rattle.std.specs.Str.Lines.{lines, lines_of_parts, strip_carriage_return}
use Rattle.std.proofs.lemmas.Bool.{cond-false, cond-true, eqb-true}
use Rattle.std.proofs.lemmas.Bool.Decides.{nat_tests}
use Rattle.std.proofs.lemmas.Grind.{flat_map-append}
use Rattle.std.proofs.lemmas.List.Folds.{list_all-append}
use Rattle.std.proofs.lemmas.List.Quantifiers.{position-Some}
use Rattle.judge_core.specs.Answered.{AreAnswered, AreNoted, Continues, HasNoFeed, IsTold, Told, asked_from, is_asked, note_of, said_of}
use Rattle.judge_core.specs.Lines.{IsComment, IsKept}

-- a line and its number, and what is told of it
abbrev Line : Type 0
Line = ℕ × List ℕ

abbrev Answer : Type 0
Answer = ℕ × Told

-- what is told of a numbered line is right
abbrev IsRight : Line → Answer → Type 0
IsRight line told = (told.0 ≡ line.0) × IsTold line.1 told.1

-- lists of pairs that go together, one after another
zip_append : {X Y : Type 0} (R : X → Y → Type 0) (a b : List X) (x y : List Y) → AllZip R a x → AllZip R b y → AllZip R (a ++ b) (x ++ y)
zip_append R [] b [] y h k = k
zip_append R [] b (v ∷ x) y h k = absurd h
zip_append R (u ∷ a) b [] y h k = absurd h
zip_append R (u ∷ a) b (v ∷ x) y h k = (h.0, zip_append R a b x y h.1 k)

-- a line that asks for an answer
neither : (a b : Bool) → a ≡ false → b ≡ false → not (a || b) ≡ true
neither true b p q = absurd (cc)
neither false true p q = absurd (cc)
neither false false p q = refl

pub asks : (line : List ℕ) → (length line == 0) ≡ false → (get_or line 0 0 ≡ 35 → ⊥) → is_asked line ≡ true
asks line some other = neither (length line == 0) (get_or line 0 0 == 35) some (grind (arith, nat_tests))

-- one is true exactly where all of one are
only_one : (b : Bool) → b ≡ b && true
only_one true = refl
only_one false = refl

-- both are true
pub both_true : (a b c : Bool) → c ≡ a && b → c ≡ true → (a ≡ true) × (b ≡ true)
both_true true b c is all = (refl, sym is ∙ all)
both_true false b c is all = absurd (cc)

-- notes, and more notes
notes_append : (a b : List Answer) (u v : List ℕ) → AreNoted a u → AreNoted b v → AreNoted (a ++ b) (u ++ v)
notes_append [] b u v h k = subst (λ w. AreNoted b (w ++ v)) (sym h) k
notes_append (told ∷ a) b u v (prefix, after, back, split, is, rest) k = (prefix, after ++ v, back, ap (λ w. w ++ v) split ∙ append_assoc prefix after v, is, notes_append a b after v rest k)

-- the numbered lines of a line that asks for an answer
pub only_asked : (n : ℕ) (line : List ℕ) → is_asked line ≡ true → asked_from n (line ∷ []) ≡ (n, line) ∷ []
only_asked n line asked = cond-true (is_asked line) ((n, line) ∷ []) [] asked

-- of one that asks for none
none_asked : (n : ℕ) (line : List ℕ) (rest : List (List ℕ)) → is_asked line ≡ false → asked_from n (line ∷ rest) ≡ asked_from (n + 1) rest
none_asked n line rest silent = cond-false (is_asked line) ((n, line) ∷ asked_from (n + 1) rest) (asked_from (n + 1) rest) silent

-- of a line, and then of more
pub asked_then : (n : ℕ) (line : List ℕ) (rest : List (List ℕ)) → asked_from n (line ∷ rest) ≡ asked_from n (line ∷ []) ++ asked_from (n + 1) rest
asked_then n line rest = by (is_asked line) (asked_from (n + 1) rest)
  where
    by : (b : Bool) (more : List Line) → cond b ((n, line) ∷ more) more ≡ cond b ((n, line) ∷ []) [] ++ more
    by true more = refl
    by false more = refl

-- no line, no answer
pub none_answered : (numbered : Bool) → AreAnswered numbered [] [] [] true
none_answered numbered = record { answers = []; right = tt; text = refl; notes = refl; verdicts = refl }

-- a line that asks for no answer
pub silent_answered : (numbered : Bool) (n : ℕ) (line : List ℕ) → is_asked line ≡ false → AreAnswered numbered (asked_from n (line ∷ [])) [] [] true
silent_answered numbered n line silent = subst (λ asked. AreAnswered numbered asked [] [] true) (sym (none_asked n line [] silent)) (none_answered numbered)

-- the answer to a line
pub one_answered : (numbered : Bool) (n : ℕ) (line : List ℕ) (told : Told) (noted back : List ℕ) → is_asked line ≡ true → IsTold line told → note_of (n, told) ≡ noted ++ back
    → AreAnswered numbered (asked_from n (line ∷ [])) (said_of numbered (n, told)) noted told.judged
one_answered numbered n line told noted back asked right note = record {
  answers = (n, told) ∷ [];
  right = subst (λ ls. AllZip IsRight ls ((n, told) ∷ [])) (sym (only_asked n line asked)) ((refl, right), tt);
  text = sym (append-nil (said_of numbered (n, told)));
  notes = (noted, [], back, sym (append-nil noted), note, refl);
  verdicts = only_one told.judged;
}

-- the answers to lines, and then those to more lines
pub both_answered : (numbered : Bool) (l m : List Line) (s t u v : List ℕ) (a b : Bool) → AreAnswered numbered l s u a → AreAnswered numbered m t v b → AreAnswered numbered (l ++ m) (s ++ t) (u ++ v) (a && b)
both_answered numbered l m s t u v a b h k = record {
  answers = h.answers ++ k.answers;
  right = zip_append IsRight l m h.answers k.answers h.right k.right;
  text = ap (λ w. w ++ t) h.text ∙ ap (λ w. flat_map (said_of numbered) h.answers ++ w) k.text ∙ sym (flat_map-append (said_of numbered) h.answers k.answers);
  notes = notes_append h.answers k.answers u v h.notes k.notes;
  verdicts = ap (λ w. w && b) h.verdicts ∙ ap (λ w. list_all (λ (told : Answer). told.1.judged) h.answers && w) k.verdicts ∙ sym (list_all-append (λ (told : Answer). told.1.judged) h.answers k.answers);
}

-- the test that splits lines
abbrev feed : ℕ → Bool
feed b = b == 10

-- the parts of bytes up to a line feed, and after it
parts_at : (pending rest : List ℕ) → HasNoFeed pending → slice_split feed (pending ++ 10 ∷ rest) ≡ pending ∷ slice_split feed rest
parts_at [] rest none = refl
parts_at (b ∷ pending) rest none = rw none.0 (ap (onto_first b) (parts_at pending rest none.1))

-- the only part of bytes without one
one_part : (text : List ℕ) → HasNoFeed text → slice_split feed text ≡ text ∷ []
one_part [] none = refl
one_part (b ∷ text) none = rw none.0 (ap (onto_first b) (one_part text none.1))

-- there is a part
some_part : (text : List ℕ) → (first : List ℕ) × (rest : List (List ℕ)) × (slice_split feed text ≡ first ∷ rest)
some_part [] = ([], [], refl)
some_part (b ∷ text) = let (first, rest, e) = some_part text in joined (feed b) b first rest (slice_split feed text) e
  where
    joined : (is_feed : Bool) (b : ℕ) (first : List ℕ) (rest parts : List (List ℕ)) → parts ≡ first ∷ rest → (f : List ℕ) × (r : List (List ℕ)) × (cond is_feed ([] ∷ parts) (onto_first b parts) ≡ f ∷ r)
    joined true b first rest parts e = ([], parts, refl)
    joined false b first rest parts e = (b ∷ first, rest, ap (onto_first b) e)

-- a line and the lines after it
pub line_then : (pending rest : List ℕ) → HasNoFeed pending → lines (pending ++ 10 ∷ rest) ≡ strip_carriage_return pending ∷ lines rest
line_then pending rest none =
    let (first, more, e) = some_part rest in
    ap lines_of_parts (parts_at pending rest none) ∙ ap (λ parts. lines_of_parts (pending ∷ parts)) e ∙ ap (λ parts. strip_carriage_return pending ∷ lines_of_parts parts) (sym e)

-- no line feed in either, none in both
pub no_feed-append : (a b : List ℕ) → HasNoFeed a → HasNoFeed b → HasNoFeed (a ++ b)
no_feed-append [] b h k = k
no_feed-append (x ∷ a) b h k = (h.0, no_feed-append a b h.1 k)

-- none before the place of the first
before_place : (text : List ℕ) (i : ℕ) → ((k : ℕ) → k < i → feed (get_or text k 0) ≡ false) → HasNoFeed (take i text)
before_place [] zero h = tt
before_place [] (suc i) h = tt
before_place (b ∷ text) zero h = tt
before_place (b ∷ text) (suc i) h = (h 0 (omega arith), before_place text i (λ k l. h (suc k) (omega arith)))

-- the first line feed of bytes, and what is around it
pub at_feed : (text : List ℕ) (i : ℕ) → position feed text ≡ Some i → HasNoFeed (take i text) × (text ≡ take i text ++ 10 ∷ drop (i + 1) text)
at_feed text i e =
    let (inside, is, before) = position-Some feed text i 0 e in
    (before_place text i before, sym (take-append-drop i text) ∙ ap (λ u. take i text ++ u) (rw (add-one, drop-cons text i 0) (ap (λ b. b ∷ drop (suc i) text) (eqb-true (get_or text i 0) 10 is))))

-- none where there is no place
none_here : (b : Bool) (n m : ℕ) → suc m ≤ cond (not b) (1 + n) 0 → (b ≡ false) × (m ≤ n)
none_here true n m h = absurd (omega arith)
none_here false n m h = (refl, omega arith)

nowhere : (text : List ℕ) → length text ≤ position_or_len feed text → HasNoFeed text
nowhere [] h = tt
nowhere (b ∷ text) h = let (here, after) = none_here (feed b) (position_or_len feed text) (length text) h in (here, nowhere text after)

none_place : (b : Bool) (a : ℕ) → cond b (Some a) None ≡ None → b ≡ false
none_place true a e = absurd (cc)
none_place false a e = refl

pub no_feed : (text : List ℕ) → position feed text ≡ None → HasNoFeed text
no_feed text e =
    let outside : nat_lt (position_or_len feed text) (length text) ≡ false = none_place (nat_lt (position_or_len feed text) (length text)) (position_or_len feed text) e in
    nowhere text (grind (arith, nat_tests))

-- a last part that isn't empty is a line
one_line : (b : ℕ) (back : List ℕ) → lines_of_parts ((b ∷ back) ∷ []) ≡ (b ∷ back) ∷ []
one_line b back = let some : (length (b ∷ back) == 0) ≡ false = grind (arith, nat_tests) in cond-false (length (b ∷ back) == 0) [] ((b ∷ back) ∷ []) some

-- a comment asks for no answer, and no more does what is left of one without a carriage return at its end
comment_stripped : (rest : List ℕ) → is_asked (strip_carriage_return (35 ∷ rest)) ≡ false
comment_stripped [] = refl
comment_stripped (b ∷ rest) = by (get_or (35 ∷ b ∷ rest) (length (35 ∷ b ∷ rest) - 1) 0 == 13)
  where
    silent : (l : List ℕ) → is_asked (35 ∷ l) ≡ false
    silent l = grind (arith, nat_tests)

    shorter : take (length (35 ∷ b ∷ rest) - 1) (35 ∷ b ∷ rest) ≡ 35 ∷ take (length rest) (b ∷ rest)
    shorter = let e : length (35 ∷ b ∷ rest) - 1 ≡ suc (length rest) = omega arith in ap (λ k. take k (35 ∷ b ∷ rest)) e

    by : (last : Bool) → is_asked (cond last (take (length (35 ∷ b ∷ rest) - 1) (35 ∷ b ∷ rest)) (35 ∷ b ∷ rest)) ≡ false
    by true = ap is_asked shorter ∙ silent (take (length rest) (b ∷ rest))
    by false = silent (b ∷ rest)

pub silent_comment : (line : List ℕ) → IsComment line → is_asked (strip_carriage_return line) ≡ false
silent_comment line (rest, is) = ap (λ l. is_asked (strip_carriage_return l)) is ∙ comment_stripped rest

-- a line asks what is kept of it asks
pub kept_asked : (n : ℕ) (line kept : List ℕ) → IsKept line kept → asked_from n (strip_carriage_return line ∷ []) ≡ asked_from n (strip_carriage_return kept ∷ [])
kept_asked n line kept (inl same) = ap (λ l. asked_from n (strip_carriage_return l ∷ [])) (sym same)
kept_asked n line kept (inr (one, other)) = none_asked n (strip_carriage_return line) [] (silent_comment line one) ∙ sym (none_asked n (strip_carriage_return kept) [] (silent_comment kept other))

-- the numbered lines of a comment that goes on with more bytes: those after it
abbrev after_comment : ℕ → List ℕ → List Line
after_comment n rest = elim (position feed rest) [ Some i ↦ asked_from (n + 1) (lines (drop (i + 1) rest)) | None ↦ [] ]

comment_lines : (n : ℕ) (line rest : List ℕ) → IsComment line → HasNoFeed line → asked_from n (lines (line ++ rest)) ≡ after_comment n rest
comment_lines n line rest comment none = by (position feed rest) refl
  where
    by : (at : Option ℕ) → position feed rest ≡ at → asked_from n (lines (line ++ rest)) ≡ elim at [ Some i ↦ asked_from (n + 1) (lines (drop (i + 1) rest)) | None ↦ [] ]
    by (Some i) e =
        let (head, around) = at_feed rest i e in
        let longer : IsComment (line ++ take i rest) = (comment.0 ++ take i rest, ap (λ l. l ++ take i rest) comment.1) in
        ap (λ r. asked_from n (lines (line ++ r))) around
        ∙ ap (λ r. asked_from n (lines r)) (sym (append_assoc line (take i rest) (10 ∷ drop (i + 1) rest)))
        ∙ ap (asked_from n) (line_then (line ++ take i rest) (drop (i + 1) rest) (no_feed-append line (take i rest) none head))
        ∙ none_asked n (strip_carriage_return (line ++ take i rest)) (lines (drop (i + 1) rest)) (silent_comment (line ++ take i rest) longer)
    by None e =
        let whole = no_feed-append line rest none (no_feed rest e) in
        ap (λ l. asked_from n (lines (l ++ rest))) comment.1
        ∙ ap (λ parts. asked_from n (lines_of_parts parts)) (one_part (35 ∷ (comment.0 ++ rest)) (subst HasNoFeed (ap (λ l. l ++ rest) comment.1) whole))
        ∙ ap (asked_from n) (one_line 35 (comment.0 ++ rest))
        ∙ none_asked n (35 ∷ (comment.0 ++ rest)) [] (grind (arith, nat_tests))

-- a line asks, whatever follows, what is kept of it asks
kept_lines : (n : ℕ) (line kept rest : List ℕ) → IsKept line kept → HasNoFeed line → HasNoFeed kept → asked_from n (lines (line ++ rest)) ≡ asked_from n (lines (kept ++ rest))
kept_lines n line kept rest (inl same) none none' = ap (λ l. asked_from n (lines (l ++ rest))) (sym same)
kept_lines n line kept rest (inr (one, other)) none none' = comment_lines n line rest one none ∙ sym (comment_lines n kept rest other none')

-- nothing came yet
pub begins : (numbered : Bool) (n : ℕ) (pending : List ℕ) → Continues numbered n pending [] n pending [] [] true
begins numbered n pending = ([], λ rest. refl, none_answered numbered)

-- one piece after another
pub continues_on : (numbered : Bool) (n : ℕ) (pending one : List ℕ) (m : ℕ) (mid other : List ℕ) (o : ℕ) (back s t u v : List ℕ) (a b : Bool) → Continues numbered n pending one m mid s u a → Continues numbered m mid other o back t v b
    → Continues numbered n pending (one ++ other) o back (s ++ t) (u ++ v) (a && b)
continues_on numbered n pending one m mid other o back s t u v a b (done, splits, answered) (more, splits', answered') = (
  done ++ more,
  (λ rest.
      ap (λ w. asked_from n (lines (pending ++ w))) (append_assoc one other rest) ∙ splits (other ++ rest) ∙ ap (λ w. done ++ w) (splits' rest) ∙ sym (append_assoc done more (asked_from o (lines (back ++ rest))))),
  both_answered numbered done more s t u v a b answered answered',
)

-- a line ended, of which something was kept, and was answered
pub line_ended : (numbered : Bool) (n : ℕ) (pending head kept s u : List ℕ) (a : Bool) → IsKept (pending ++ head) kept → HasNoFeed pending → HasNoFeed head → AreAnswered numbered (asked_from n (strip_carriage_return kept ∷ [])) s u a
    → Continues numbered n pending (head ++ (10 ∷ [])) (n + 1) [] s u a
line_ended numbered n pending head kept s u a is none none' answered = (
  asked_from n (strip_carriage_return kept ∷ []),
  (λ rest.
      ap (λ w. asked_from n (lines (pending ++ w))) (append_assoc head (10 ∷ []) rest)
      ∙ ap (λ w. asked_from n (lines w)) (sym (append_assoc pending head (10 ∷ rest)))
      ∙ ap (asked_from n) (line_then (pending ++ head) rest (no_feed-append pending head none none'))
      ∙ asked_then n (strip_carriage_return (pending ++ head)) (lines rest)
      ∙ ap (λ w. w ++ asked_from (n + 1) (lines rest)) (kept_asked n (pending ++ head) kept is)),
  answered,
)

-- what is left at the end is a line, or nothing, which asks for no answer
pub last_asked : (n : ℕ) (back : List ℕ) → HasNoFeed back → asked_from n (back ∷ []) ≡ asked_from n (lines back)
last_asked n [] none = refl
last_asked n (b ∷ back) none = ap (asked_from n) (sym (one_line b back)) ∙ ap (λ parts. asked_from n (lines_of_parts parts)) (sym (one_part (b ∷ back) none))

-- the lines of what came, and of the prefix of a line that came before
pub all_lines : (numbered : Bool) (n : ℕ) (pending text : List ℕ) (m : ℕ) (back s u : List ℕ) (a : Bool) (c : Continues numbered n pending text m back s u a) → asked_from n (lines (pending ++ text)) ≡ c.0 ++ asked_from m (lines back)
all_lines numbered n pending text m back s u a (done, splits, answered) =
    ap (λ w. asked_from n (lines (pending ++ w))) (sym (append-nil text)) ∙ splits [] ∙ ap (λ w. done ++ asked_from m (lines w)) (append-nil back)

-- the whole input was answered
pub text_ended : (numbered : Bool) (n : ℕ) (text : List ℕ) (m : ℕ) (back s t u v : List ℕ) (a b : Bool) → Continues numbered n [] text m back s u a → HasNoFeed back → AreAnswered numbered (asked_from m (back ∷ [])) t v b
    → AreAnswered numbered (asked_from n (lines text)) (s ++ t) (u ++ v) (a && b)
text_ended numbered n text m back s t u v a b (done, splits, answered) none h =
    let all : asked_from n (lines text) ≡ done ++ asked_from m (back ∷ []) = all_lines numbered n [] text m back s u a (done, splits, answered) ∙ ap (λ w. done ++ w) (sym (last_asked m back none)) in
    subst (λ ls. AreAnswered numbered ls (s ++ t) (u ++ v) (a && b)) (sym all) (both_answered numbered done (asked_from m (back ∷ [])) s t u v a b answered h)

-- a line went on after what was answered, and something of it was kept
pub goes_on : (numbered : Bool) (n : ℕ) (pending gone : List ℕ) (m : ℕ) (mid rest kept s u : List ℕ) (a : Bool) → Continues numbered n pending gone m mid s u a → IsKept (mid ++ rest) kept → HasNoFeed (mid ++ rest) → HasNoFeed kept
    → Continues numbered n pending (gone ++ rest) m kept s u a
goes_on numbered n pending gone m mid rest kept s u a (done, splits, answered) is none none' = (
  done,
  (λ more.
      ap (λ w. asked_from n (lines (pending ++ w))) (append_assoc gone rest more)
      ∙ splits (rest ++ more)
      ∙ ap (λ w. done ++ asked_from m (lines w)) (sym (append_assoc mid rest more))
      ∙ ap (λ w. done ++ w) (kept_lines m (mid ++ rest) kept more is none none')),
  answered,
)
