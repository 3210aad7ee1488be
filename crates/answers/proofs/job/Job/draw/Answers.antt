-- `Job::draw` meets its contract.
-- Assumes nothing.
use Rattle.answers.proofs.DrawnLaws.{answer-of, slice-of}
use Rattle.answers.proofs.job.Job.draw.Goals as goal

pub returns-clause-answer : goal.returns-clause-answer
returns-clause-answer c = answer-of _ _ _ c.args.self.now.bound c.seeded-sponge.ensures c.sample_indices.ensures.answer

pub returns-clause-slice : goal.returns-clause-slice
returns-clause-slice c = slice-of _ _ _ c.args.self.now.bound c.seeded-sponge.ensures c.sample_indices.ensures.slice
