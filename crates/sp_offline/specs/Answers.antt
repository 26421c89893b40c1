-- What an offline command answers for its whole input: a verdict and the output.
use Rattle.std.specs.Prelude.{ℕ, Bool, List}
use Rattle.sp_offline.specs.DraftAnswers as drafts
use Rattle.sp_offline.specs.declared.draft_answer.DraftAnswer.TheVariants as draft_answers
use Rattle.sp_offline.specs.PathsAnswers as routes
use Rattle.sp_offline.specs.declared.paths_answer.PathsAnswer.TheVariants as route_answers
use Rattle.sp_offline.specs.declared.command.Offline.{Offline}
use Rattle.sp_offline.specs.declared.command.Offline.TheVariants as commands
use Rattle.sp_offline.specs.declared.answered.Verdict.{Verdict}
use Rattle.sp_offline.specs.declared.answered.Verdict.TheVariants as verdicts

-- for this input, of which there was more where it is cut
abbrev pub IsAnswered : Offline → List ℕ → Bool → Verdict → List ℕ → Type 0
IsAnswered commands.Topology text is_cut verdicts.Done out = drafts.IsAnswer text is_cut (draft_answers.Signed out)
IsAnswered commands.Topology text is_cut verdicts.Fewer out = ⊥
IsAnswered commands.Topology text is_cut verdicts.Refused out = drafts.IsAnswer text is_cut (draft_answers.Refused out)
IsAnswered (commands.Paths q) text is_cut verdicts.Done out = routes.IsAnswer q text is_cut (route_answers.Found out)
IsAnswered (commands.Paths q) text is_cut verdicts.Fewer out = routes.IsAnswer q text is_cut (route_answers.Fewer out)
IsAnswered (commands.Paths q) text is_cut verdicts.Refused out = routes.IsAnswer q text is_cut (route_answers.Refused out)
