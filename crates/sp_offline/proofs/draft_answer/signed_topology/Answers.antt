use Rattle.sp_offline.proofs.GoodDrafts.{good_draft}
use Rattle.sp_offline.proofs.draft_answer.signed_topology.Goals as goal

pub signed_text-requires : goal.signed_text-requires
signed_text-requires c = good_draft c.args.text.now c.in-Ok.draft c.in-Ok.ensures.ok.1
