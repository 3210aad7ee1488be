-- `Job::draw_line` meets its contract.
-- Assumes nothing.
use mathlib.Core.Path.{ap, ◌∙◌}
use lib.Seq.{length-take-le}
use Rattle.refusals.specs.Number.{number_of}
use Rattle.answers.proofs.DrawnLaws.{front-found, front-missing}
use Rattle.answers.proofs.job.Job.draw_line.Goals as goal

pub returns-in-Ok : goal.returns-in-Ok
returns-in-Ok c =
    front-found c.args.self.now.header _ _ (length-take-le _ _ c.args.self.now.room) c.args.self.now.room c.in-Ok.ensures.answer c.in-Ok.ensures.slice c.draw_line.ensures

pub returns-in-Err : goal.returns-in-Err
returns-in-Err c =
    front-missing c.args.self.now.header _ _ (length-take-le _ _ c.args.self.now.room) c.in-Err.ensures.answer (c.into.ensures ∙ ap number_of c.from.ensures) c.refused_line.ensures
