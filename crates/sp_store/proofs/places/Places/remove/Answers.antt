use Rattle.std.proofs.Common.{ap, arith, length, sym, ◌∙◌}
use Rattle.sp_rules.specs.Store.{has_id}
use Rattle.sp_store.specs.Places.{live_of}
use Rattle.sp_store.proofs.LeftLemmas.{none_left, one_less}
use Rattle.sp_store.proofs.PlaceLemmas.{emptied_below, emptied_stands}
use Rattle.sp_store.proofs.places.Places.remove.Goals as goal

pub invariant_of-self : goal.invariant_of-self
invariant_of-self c =
    let less = one_less (has_id c.args.id) (live_of c.self.inside.map.entries) c.in-Some.entry (sym c.take.ensures.entry ∙ c.in-Some.is) in
    record {
      enough = c.self.invariant.enough;
      counted = omega (arith, less, ap length c.take.ensures.others, c.self.invariant.counted);
      few = omega (arith, c.self.invariant.few);
      stand = rw c.take.ensures.places (emptied_stands c.args.id 0 c.self.inside.map.entries c.self.invariant.stand);
      below = rw c.take.ensures.places (emptied_below c.args.id c.self.inside.last c.self.inside.map.entries c.self.invariant.below);
      roomy = omega (arith, c.take.ensures.room, c.self.invariant.roomy);
      empty = c.self.invariant.empty;
      twin_roomy = c.self.invariant.twin_roomy;
    }

pub invariant_of-self-in-None : goal.invariant_of-self-in-None
invariant_of-self-in-None c =
    let same = none_left (has_id c.args.id) (live_of c.self.inside.map.entries) (sym c.take.ensures.entry ∙ c.in-None.is) in
    record {
      enough = c.self.invariant.enough;
      counted = omega (arith, ap length same, ap length c.take.ensures.others, c.self.invariant.counted);
      few = c.self.invariant.few;
      stand = rw c.take.ensures.places (emptied_stands c.args.id 0 c.self.inside.map.entries c.self.invariant.stand);
      below = rw c.take.ensures.places (emptied_below c.args.id c.self.inside.last c.self.inside.map.entries c.self.invariant.below);
      roomy = omega (arith, c.take.ensures.room, c.self.invariant.roomy);
      empty = c.self.invariant.empty;
      twin_roomy = c.self.invariant.twin_roomy;
    }
