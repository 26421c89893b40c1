use Rattle.std.proofs.Common.{ap, sym, ◌∙◌}
use Rattle.sp_rules.specs.Window.{is_seen}
use Rattle.sp_dedup.proofs.RingLemmas.{stays_ring}
use Rattle.sp_dedup.proofs.window.Window.first.Goals as goal

pub invariant_of-self : goal.invariant_of-self
invariant_of-self c =
    rw c.max-self-inside.ensures
    (stays_ring c.self.inside.greatest c.self.inside.ring c.args.seq c.self.invariant (ap (λ ms. is_seen ms c.args.seq) c.self.view_is
    ∙ sym c.seen.ensures ∙ c.if-seen.false))
