use Rattle.std.proofs.Common.{◌≡◌, ℕ, List, set, None, ap, ◌∙◌}
use Rattle.sp_measure.specs.Costs.{with_cost}
use Rattle.sp_measure.specs.Meters.{MeterState}
use Rattle.sp_measure.specs.Places.{costs_in}
use Rattle.sp_measure.proofs.MeterLemmas.{cost_put}
use Rattle.sp_measure.proofs.meter.Meter.close.Goals as goal

pub returns : goal.returns
returns c =
    let m = c.self.inside in
    let moved : costs_in (set c.rotate_left.new.self 31 c.args.cost) c.min-self-inside.result ≡ with_cost (costs_in m.costs m.closed) c.args.cost =
    rw (c.rotate_left.ensures.after, c.min-self-inside.ensures) (cost_put m.costs m.closed c.args.cost c.self.invariant.all_places c.self.invariant.within) in
    ap (λ (cs : List ℕ). record {
      sender = record { key = m.key; me = m.me; boot = m.boot };
      number = m.number;
      opening = None;
      taken = m.taken;
      proof = m.proof;
      costs = cs;
      published = m.published;
    }) moved
    ∙ ap (λ (w : MeterState). record w { opening = None; costs = with_cost w.costs c.args.cost }) c.self.view_is
