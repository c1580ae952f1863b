use Rattle.std.proofs.Common.{◌≡◌, ◌≢◌, ◌&&◌, true, [], ◌∷◌, ◌++◌, length, length-append, take, refl, arith, ap, sym, subst, ◌∙◌, append_assoc, append-nil}
use Rattle.std.specs.Prelude.{Err, Ok}
use Rattle.std.specs.Io.KnownBytes.{Appends, Consumes}
use Rattle.std.specs.Str.Lines.{lines}
use Rattle.std.proofs.KnownBytes.{Appends-nil, Appends-trans, Consumes-nil, Consumes-trans}
use Rattle.std.proofs.lemmas.List.{length-take-le}
use Rattle.commonware_base.proofs.Errors.{err_along}
use Rattle.judge_core.specs.Answered.{AreAnswered, Continues, HasNoFeed, asked_from}
use Rattle.judge_core.specs.Memory.{AreMemoryFree}
use Rattle.judge_core.specs.Session.{IsPrefixAnswered}
use Rattle.judge_core.specs.declared.error.Failure.TheVariants.{Memory, WriteFailed}
use Rattle.judge_core.proofs.Answering.{begins, both_true, continues_on, text_ended}
use Rattle.judge_core.proofs.Freeness.{free_after, going_unfree}
use Rattle.judge_core.proofs.Stopping.{beginning, err_is, for_memory, kept}
use Rattle.judge_core.proofs.stream.answer_all.Goals as goal

pub loop-piece-init : goal.loop-piece-init
loop-piece-init g c = (
  refl,
  refl,
  subst HasNoFeed (sym c.new-pending.ensures) tt,
  (λ _. refl),
  (
    [],
    [],
    [],
    Consumes-nil _,
    Appends-nil _,
    Appends-nil _,
    subst (λ f. Continues c.args.numbered 1 [] [] 1 f [] [] true) (sym c.new-pending.ensures) (begins c.args.numbered 1 []),
    omega arith,
    omega arith,
    omega arith,
  ),
)

pub returns-in_err-count-clause-stopped : goal.returns-in_err-count-clause-stopped
returns-in_err-count-clause-stopped g c =
    let (sound, whole, none, quiet, so_far) = c.loop-piece.invariant in
    let (text, said, noted, given, written, notes, answered, few, many, most) = so_far in
    err_along c.from_residual.result c.in_err-count.field-0.0 (λ failure. failure ≢ WriteFailed → IsPrefixAnswered c.args.numbered _ _ _ _) c.from_residual.ensures.1
    (λ _. beginning c.args.numbered _ _ _ _ _ text [] c.loop-piece.number c.loop-piece.pending said noted c.loop-piece.judged given (kept _ _ c.in_err-count.ensures.kept) written answered)

pub returns-in_err-last-clause-stopped : goal.returns-in_err-last-clause-stopped
returns-in_err-last-clause-stopped g c =
    let (sound, whole, none, quiet, so_far) = c.loop-piece.invariant in
    let (text, said, noted, given, written, notes, answered, few, many, most) = so_far in
    let e = c.in_err-last.field-0.0 in
    let after = take c.in_ok-count.count c.read_piece.new.room in
    err_along c.from_residual-in_err-last.result e (λ failure. failure ≢ WriteFailed → IsPrefixAnswered c.args.numbered _ _ _ _) c.from_residual-in_err-last.ensures.1
    (for_memory e _ (λ other. (c.in_err-last.ensures.failed other).0)
    (λ is. beginning c.args.numbered _ _ _ _ _ text after c.loop-piece.number c.loop-piece.pending said noted c.loop-piece.judged given c.in_ok-count.ensures.bytes
    (subst (λ out. Appends (g.W.Write.contents c.args.output.now.inner) (g.W.Write.contents out.inner) said) (sym (c.in_err-last.ensures.memory (ap Err is)).0) written) answered))

pub returns-in_err-last-clause-memory : goal.returns-in_err-last-clause-memory
returns-in_err-last-clause-memory g c =
    let (sound, whole, none, quiet, so_far) = c.loop-piece.invariant in
    let (text, said, noted, given, written, notes, answered, few, many, most) = so_far in
    let pending = c.loop-piece.pending in
    let n = c.loop-piece.number in
    let after = take c.in_ok-count.count c.read_piece.new.room in
    let nothing : text ++ after ≡ text = ap (λ k. text ++ take k c.read_piece.new.room) c.if-count-eq0.true ∙ append-nil text in
    λ is.
    let unfree = (c.in_err-last.ensures.memory (ap Err (err_is c.from_residual-in_err-last.result c.in_err-last.field-0.0 Memory c.from_residual-in_err-last.ensures.1 is))).1 in
    let line : c.as_slice.result.now ≡ pending ++ [] = c.as_slice.ensures ∙ sym (append-nil pending) in (
      text,
      subst (Consumes _ _) nothing (Consumes-trans _ _ _ text after given c.in_ok-count.ensures.bytes),
      going_unfree c.args.numbered 1 [] text n pending said noted c.loop-piece.judged answered [] text (sym (append-nil text)) (subst HasNoFeed (sym (append-nil pending)) none) (subst (λ l. ¬ AreMemoryFree (asked_from n (l ∷ []))) line unfree),
    )

pub returns-then-count-eq0-clause-done : goal.returns-then-count-eq0-clause-done
returns-then-count-eq0-clause-done g c =
    let (sound, whole, none, quiet, so_far) = c.loop-piece.invariant in
    let (text, said, noted, given, written, notes, answered, few, many, most) = so_far in
    let after = take c.in_ok-count.count c.read_piece.new.room in
    let n = c.loop-piece.number in
    let (t, u, written', notes', answered') = c.in_ok-last.ensures.answered in
    let nothing : text ++ after ≡ text = ap (λ k. text ++ take k c.read_piece.new.room) c.if-count-eq0.true ∙ append-nil text in
    let ended = (c.in_ok-count.ensures.ended c.if-count-eq0.true).0 in
    let line = subst (λ l. AreAnswered c.args.numbered (asked_from n (l ∷ [])) t u c.in_ok-last.last) c.as_slice.ensures answered' in (
      text,
      said ++ t,
      noted ++ u,
      record { bytes = subst (Consumes _ _) nothing (Consumes-trans _ _ _ text after given c.in_ok-count.ensures.bytes); at_end = ended },
      Appends-trans _ _ _ _ _ written written',
      Appends-trans _ _ _ _ _ notes notes',
      subst (AreAnswered c.args.numbered (asked_from 1 (lines text)) (said ++ t) (noted ++ u)) (sym c.both.ensures)
          (text_ended c.args.numbered 1 text n c.loop-piece.pending said t noted u c.loop-piece.judged c.in_ok-last.last answered none line),
    )

pub returns-in_err-verdicts-clause-stopped : goal.returns-in_err-verdicts-clause-stopped
returns-in_err-verdicts-clause-stopped g c =
    let (sound, whole, none, quiet, so_far) = c.loop-piece.invariant in
    let (text, said, noted, given, written, notes, answered, few, many, most) = so_far in
    let e = c.in_err-verdicts.field-0.0 in
    let n = c.loop-piece.number in
    let pending = c.loop-piece.pending in
    err_along c.from_residual-in_err-verdicts.result e (λ failure. failure ≢ WriteFailed → IsPrefixAnswered c.args.numbered _ _ _ _) c.from_residual-in_err-verdicts.ensures.1
    (for_memory e _ (λ other. (c.in_err-verdicts.ensures.failed other).0)
    (λ is.
    let (whole', stop, unfree) = c.in_err-verdicts.ensures.memory (ap Err is) in
    let more = subst (Consumes (g.R.Read.remaining c.loop-piece.input.inner) (g.R.Read.remaining c.read_piece.new.input.inner)) stop.split c.in_ok-count.ensures.bytes in
    record {
      text = text ++ stop.gone;
      after = stop.after;
      number = stop.m;
      back = stop.back;
      said = said ++ stop.said;
      noted = noted ++ stop.noted;
      judged = c.loop-piece.judged && stop.judged;
      given = subst (Consumes _ _) (sym (append_assoc text stop.gone stop.after)) (Consumes-trans _ _ _ text (stop.gone ++ stop.after) given more);
      written = Appends-trans _ _ _ _ _ written stop.told;
      answered = continues_on c.args.numbered 1 [] text n pending stop.gone stop.m stop.back said stop.said noted stop.noted c.loop-piece.judged stop.judged answered stop.answered;
    }))

pub returns-in_err-verdicts-clause-memory : goal.returns-in_err-verdicts-clause-memory
returns-in_err-verdicts-clause-memory g c =
    let (sound, whole, none, quiet, so_far) = c.loop-piece.invariant in
    let (text, said, noted, given, written, notes, answered, few, many, most) = so_far in
    let piece = take c.in_ok-count.count c.read_piece.new.room in
    λ is.
    let unfree = (c.in_err-verdicts.ensures.memory (ap Err (err_is c.from_residual-in_err-verdicts.result c.in_err-verdicts.field-0.0 Memory c.from_residual-in_err-verdicts.ensures.1 is))).2 in (
      text ++ piece,
      Consumes-trans _ _ _ text piece given c.in_ok-count.ensures.bytes,
      (λ free. unfree (free_after answered.0 _ (subst AreMemoryFree (answered.1 piece) free))),
    )

pub loop-piece-preserved : goal.loop-piece-preserved
loop-piece-preserved g c =
    let (sound, whole, none, quiet, so_far) = c.loop-piece.invariant in
    let (text, said, noted, given, written, notes, answered, few, many, most) = so_far in
    let room = c.read_piece.new.room in
    let piece = take c.in_ok-count.count room in
    let n = c.loop-piece.number in
    let m = c.answer_piece.new.number in
    let back = c.answer_piece.new.pending in
    let (t, u, written', notes', answered') = c.in_ok-verdicts.ensures.answered in
    let long = length-append text piece in
    let exact : length piece ≡ c.in_ok-count.count = length-take-le c.in_ok-count.count room c.in_ok-count.ensures.within in
    let counted = c.in_ok-verdicts.ensures.counted in (
      c.in_ok-count.ensures.sound ∙ sound,
      c.in_ok-verdicts.ensures.sound ∙ whole,
      c.in_ok-verdicts.ensures.unfinished,
      (λ all. let (one, other) = both_true c.loop-piece.judged c.in_ok-verdicts.verdicts c.both-judged.result c.both-judged.ensures all in c.in_ok-verdicts.ensures.quiet (ap Ok other) ∙ quiet one),
      (
        text ++ piece,
        said ++ t,
        noted ++ u,
        Consumes-trans _ _ _ text piece given c.in_ok-count.ensures.bytes,
        Appends-trans _ _ _ _ _ written written',
        Appends-trans _ _ _ _ _ notes notes',
        subst (Continues c.args.numbered 1 [] (text ++ piece) m back (said ++ t) (noted ++ u)) (sym c.both-judged.ensures)
            (continues_on c.args.numbered 1 [] text n c.loop-piece.pending piece m back said t noted u c.loop-piece.judged c.in_ok-verdicts.verdicts answered answered'),
        omega (arith, few, long, counted),
        omega (arith, many, long, exact, c.if-count-eq0.false),
        omega (arith, most, long, exact, c.in_ok-count.ensures.within, c.read_piece.auto.room),
      ),
    )

pub returns-clause-stopped : goal.returns-clause-stopped
returns-clause-stopped g c =
    let (sound, whole, none, quiet, so_far) = c.loop-piece.invariant in
    let (text, said, noted, given, written, notes, answered, few, many, most) = so_far in
    λ _. beginning c.args.numbered _ _ _ _ _ text [] c.loop-piece.number c.loop-piece.pending said noted c.loop-piece.judged given (Consumes-nil _) written answered
