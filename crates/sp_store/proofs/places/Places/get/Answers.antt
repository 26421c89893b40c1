use Rattle.std.proofs.Common.{◌∙◌, ap, sym, Option}
use Rattle.std.specs.Option.{option_and_then, option_copied}
use Rattle.sp_rules.specs.declared.store.Entry.{Entry}
use Rattle.sp_store.proofs.PlaceLemmas.{found_is}
use Rattle.sp_store.proofs.places.Places.get.Goals as goal

pub returns-in-Some : goal.returns-in-Some
returns-in-Some c =
    rw (← c.self.view_is) (c.as_ref.ensures.value
    ∙ ap (option_and_then (λ (v : Option Entry). v)) (ap (λ r. option_copied r) (sym c.in-Some.is) ∙ c.get.ensures.value)
    ∙ found_is c.args.id 0 c.self.inside.map.entries c.self.invariant.stand)

pub returns-in-None : goal.returns-in-None
returns-in-None c =
    rw (← c.self.view_is) (ap (option_and_then (λ (v : Option Entry). v)) (ap (λ r. option_copied r) (sym c.in-None.is) ∙ c.get.ensures.value)
    ∙ found_is c.args.id 0 c.self.inside.map.entries c.self.invariant.stand)
