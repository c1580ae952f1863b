-- The whole lines of a piece, and where an allocation fails.
use Rattle.std.proofs.Common.{◌≡◌, ℕ, ◌+◌, ◌-◌, ◌&&◌, [], List, ◌∷◌, ◌++◌, length, length-append, take, drop, refl, ap, arith, sym, subst, ◌∙◌, append_assoc}
use Rattle.std.specs.Prelude.{Err, Ok}
use Rattle.std.specs.Str.Lines.{strip_carriage_return}
use Rattle.std.proofs.KnownBytes.{Appends-nil, Appends-trans}
use Rattle.std.proofs.lemmas.List.{take_rest}
use Rattle.judge_core.specs.Answered.{AreAnswered, Continues, HasNoFeed, asked_from}
use Rattle.judge_core.specs.Memory.{AreMemoryFree}
use Rattle.judge_core.specs.Said.{Says}
use Rattle.judge_core.proofs.Answering.{at_feed, begins, both_true, continues_on, goes_on, kept_asked, line_ended, no_feed, no_feed-append}
use Rattle.judge_core.proofs.Freeness.{ended_unfree, going_unfree, stripped_unfree, whole_unfree}
use Rattle.judge_core.proofs.Saying.{says_nothing, says_on}
use Rattle.judge_core.proofs.Stopping.{err_is}
use Rattle.judge_core.specs.declared.error.Failure.TheVariants.{Memory}
use Rattle.judge_core.proofs.lines.answer_lines.Goals as goal

-- what is left of a piece after a line
piece_split : (piece gone rest : List ℕ) (at : ℕ) → piece ≡ gone ++ rest → rest ≡ take at rest ++ 10 ∷ drop (at + 1) rest → piece ≡ (gone ++ (take at rest ++ (10 ∷ []))) ++ take (length rest - (at + 1)) (drop (at + 1) rest)
piece_split piece gone rest at split around =
    split
    ∙ ap (λ u. gone ++ u) (around ∙ ap (λ u. take at rest ++ 10 ∷ u) (sym (take_rest rest (at + 1))) ∙ sym (append_assoc (take at rest) (10 ∷ []) (take (length rest - (at + 1)) (drop (at + 1) rest))))
    ∙ sym (append_assoc gone (take at rest ++ (10 ∷ [])) (take (length rest - (at + 1)) (drop (at + 1) rest)))

pub loop-at-init : goal.loop-at-init
loop-at-init g c = (
  c.requires.unfinished,
  refl,
  (λ _. refl),
  ([], [], [], refl, omega arith, says_nothing _ _, Appends-nil _, begins c.args.numbered c.args.number.now c.args.pending.now),
)

pub loop-at-preserved : goal.loop-at-preserved
loop-at-preserved g c =
    let (none, sound, quiet, so_far) = c.loop-at.invariant in
    let (gone, said, noted, split, counted, says, notes, continues) = so_far in
    let rest = c.loop-at.rest.now in
    let at = c.in-Some.at in
    let head = take at rest in
    let pending = c.loop-at.pending in
    let kept = c.extend_line.new.pending in
    let n = c.loop-at.number in
    let (none', around) = at_feed rest at (sym c.place_of.ensures ∙ c.in-Some.is) in
    let (s, u, says', notes', answered) = c.in_ok-verdict.ensures.answered in
    let line : c.without_return-line.result.now ≡ strip_carriage_return kept = c.without_return-line.ensures ∙ ap strip_carriage_return c.as_slice.ensures in
    let answered' = subst (λ l. AreAnswered c.args.numbered (asked_from n (l ∷ [])) s u c.in_ok-verdict.verdict) line answered in
    let ended = line_ended c.args.numbered n pending head kept s u c.in_ok-verdict.verdict c.in_ok-extend_line.ensures.kept none none' answered' in
    let on = continues_on c.args.numbered c.args.number.now c.args.pending.now gone n pending (head ++ (10 ∷ [])) (n + 1) [] said s noted u c.loop-at.judged c.in_ok-verdict.verdict continues ended in
    let long = length-append gone (head ++ (10 ∷ [])) in
    let longer = length-append head (10 ∷ []) in (
      subst HasNoFeed (sym c.clear.ensures) tt,
      c.in_ok-verdict.ensures.sound ∙ sound,
      (λ all. let (one, other) = both_true c.loop-at.judged c.in_ok-verdict.verdict c.both-judged.result c.both-judged.ensures all in c.in_ok-verdict.ensures.quiet (ap Ok other) ∙ quiet one),
      (
        gone ++ (head ++ (10 ∷ [])),
        said ++ s,
        noted ++ u,
        piece_split c.args.piece.now gone rest at split around,
        omega (arith, counted, long, longer),
        says_on _ _ _ c.args.room.now c.loop-at.room c.answer_line.new.room said s says says',
        Appends-trans _ _ _ noted u notes notes',
        subst (λ b. Continues c.args.numbered c.args.number.now c.args.pending.now (gone ++ (head ++ (10 ∷ []))) (n + 1) c.clear.new.self (said ++ s) (noted ++ u) b) (sym c.both-judged.ensures)
            (subst (λ f. Continues c.args.numbered c.args.number.now c.args.pending.now (gone ++ (head ++ (10 ∷ []))) (n + 1) f (said ++ s) (noted ++ u) (c.loop-at.judged && c.in_ok-verdict.verdict)) (sym c.clear.ensures) on),
      ),
    )

-- an allocation failed as a line was kept that ends in the piece
pub returns-in_err-extend_line-clause-memory : goal.returns-in_err-extend_line-clause-memory
returns-in_err-extend_line-clause-memory g c =
    let (none, sound, quiet, so_far) = c.loop-at.invariant in
    let (gone, said, noted, split, counted, says, notes, continues) = so_far in
    let rest = c.loop-at.rest.now in
    let at = c.in-Some.at in
    let pending = c.loop-at.pending in
    let n = c.loop-at.number in
    let (none', around) = at_feed rest at (sym c.place_of.ensures ∙ c.in-Some.is) in
    let (long, other) = c.in_err-extend_line.ensures.memory in
    λ _. (
      sound,
      record { gone = gone; after = rest; m = n; back = pending; said = said; noted = noted; judged = c.loop-at.judged; split = split; told = says; answered = continues },
      ended_unfree c.args.numbered c.args.number.now c.args.pending.now gone n pending said noted c.loop-at.judged continues (take at rest) (drop (at + 1) rest) c.args.piece.now (split ∙ ap (λ u. gone ++ u) around) none none'
          (stripped_unfree n (pending ++ take at rest) long other),
    )

-- one failed as a line was answered
pub returns-in_err-verdict-clause-memory : goal.returns-in_err-verdict-clause-memory
returns-in_err-verdict-clause-memory g c =
    let (none, sound, quiet, so_far) = c.loop-at.invariant in
    let (gone, said, noted, split, counted, says, notes, continues) = so_far in
    let rest = c.loop-at.rest.now in
    let at = c.in-Some.at in
    let pending = c.loop-at.pending in
    let kept = c.extend_line.new.pending in
    let n = c.loop-at.number in
    let (none', around) = at_feed rest at (sym c.place_of.ensures ∙ c.in-Some.is) in
    let line : c.without_return-line.result.now ≡ strip_carriage_return kept = c.without_return-line.ensures ∙ ap strip_carriage_return c.as_slice.ensures in
    λ is.
    let (output, room, unfree) = c.in_err-verdict.ensures.memory (ap Err (err_is c.from_residual-in_err-verdict.result c.in_err-verdict.field-0.0 Memory c.from_residual-in_err-verdict.ensures.1 is)) in
    let old = g.W.Write.contents c.args.output.now.inner in
    let told = subst (λ o. Says old (g.W.Write.contents o.inner) c.args.room.now c.answer_line.new.room said) (sym output) (subst (λ r. Says old (g.W.Write.contents c.loop-at.output.inner) c.args.room.now r said) (sym room) says) in
    let unfree' = subst (λ l. ¬ AreMemoryFree (asked_from n (l ∷ []))) line unfree in (
      ap (λ o. o.failed) output ∙ sound,
      record { gone = gone; after = rest; m = n; back = pending; said = said; noted = noted; judged = c.loop-at.judged; split = split; told = told; answered = continues },
      ended_unfree c.args.numbered c.args.number.now c.args.pending.now gone n pending said noted c.loop-at.judged continues (take at rest) (drop (at + 1) rest) c.args.piece.now (split ∙ ap (λ u. gone ++ u) around) none none'
          (subst (λ ls. ¬ AreMemoryFree ls) (sym (kept_asked n (pending ++ take at rest) kept c.in_ok-extend_line.ensures.kept)) unfree'),
    )

-- one failed as a line was kept that goes on past the piece
pub returns-in_err-extend_line-2-clause-memory : goal.returns-in_err-extend_line-2-clause-memory
returns-in_err-extend_line-2-clause-memory g c =
    let (none, sound, quiet, so_far) = c.loop-at.invariant in
    let (gone, said, noted, split, counted, says, notes, continues) = so_far in
    let rest = c.loop-at.rest.now in
    let pending = c.loop-at.pending in
    let n = c.loop-at.number in
    let (long, other) = c.in_err-extend_line-2.ensures.memory in
    λ _. (
      sound,
      record { gone = gone; after = rest; m = n; back = pending; said = said; noted = noted; judged = c.loop-at.judged; split = split; told = says; answered = continues },
      going_unfree c.args.numbered c.args.number.now c.args.pending.now gone n pending said noted c.loop-at.judged continues rest c.args.piece.now split (no_feed-append pending rest none (no_feed rest (sym c.place_of.ensures ∙ c.in_default.is)))
          (whole_unfree n (pending ++ rest) long other),
    )

pub returns-clause-unfinished : goal.returns-clause-unfinished
returns-clause-unfinished g c = c.in_ok-extend_line-2.ensures.unfinished c.loop-at.invariant.0 (no_feed c.loop-at.rest.now (sym c.place_of.ensures ∙ c.in_default.is))

pub returns-clause-answered : goal.returns-clause-answered
returns-clause-answered g c =
    let (none, sound, quiet, so_far) = c.loop-at.invariant in
    let (gone, said, noted, split, counted, says, notes, continues) = so_far in
    let rest = c.loop-at.rest.now in
    let pending = c.loop-at.pending in
    let kept = c.extend_line-2.new.pending in
    let n = c.loop-at.number in
    let none' = no_feed rest (sym c.place_of.ensures ∙ c.in_default.is) in
    let on = goes_on c.args.numbered c.args.number.now c.args.pending.now gone n pending rest kept said noted c.loop-at.judged continues c.in_ok-extend_line-2.ensures.kept (no_feed-append pending rest none none') (c.in_ok-extend_line-2.ensures.unfinished none none') in
    (said, noted, says, notes, subst (λ p. Continues c.args.numbered c.args.number.now c.args.pending.now p n kept said noted c.loop-at.judged) (sym split) on)
