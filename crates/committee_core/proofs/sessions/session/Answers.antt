use Rattle.std.proofs.Common.{◌≡◌, sym, ◌∙◌}
use Rattle.program_io.specs.Streams.{Gave}
use Rattle.committee_core.specs.Run.{status_of}
use Rattle.committee_core.specs.declared.error.RunError.TheVariants.{WriteFailed}
use Rattle.committee_core.proofs.Refusals.{not_written_at_one, refused_at_one}
use Rattle.committee_core.proofs.sessions.session.Goals as goal

pub returns-in-Err-clause-refused : goal.returns-in-Err-clause-refused
returns-in-Err-clause-refused g c = λ one.
    let status : status_of c.in-Err.error ≡ 1 = sym c.refuse.ensures ∙ one in (
      refused_at_one (Gave (g.R.Read.remaining c.args.input.now.inner) (g.R.Read.remaining c.run.new.input.inner)) c.in-Err.error status c.in-Err.ensures.refused,
      c.in-Err.ensures.nothing_written (λ failed. let same : c.in-Err.error ≡ WriteFailed = cc in not_written_at_one c.in-Err.error status same),
    )
