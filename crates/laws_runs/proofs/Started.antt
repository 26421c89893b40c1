-- Who is started after one more event; and what holds of each event that crafts.
use Rattle.std.proofs.Common.{◌≡◌, ℕ, Bool, true, false, List, [], ◌∷◌, ◌++◌, Option, Some, None, refl, ◌∙◌}
use Rattle.std.proofs.lemmas.List.Sums.{fold-append}
use Rattle.sp_base.specs.declared.id.NodeId.{NodeId}
use Rattle.sp_rules.specs.Arts.{Arts}
use Rattle.sp_rules.specs.Node.{NodeState}
use Rattle.sp_rules.specs.Steps.{Input}
use Rattle.sp_runs.specs.Inputs.{input_of}
use Rattle.sp_runs.specs.Runs.{IsCraftOf}
use Rattle.sp_runs.specs.Settings.{Setting}
use Rattle.sp_runs.specs.Worlds.{World}
use Rattle.sp_schedule_crafts.specs.declared.object.CraftedObject.{CraftedObject}
use Rattle.sp_schedule_events.specs.Documents.{list_in}
use Rattle.sp_schedule_events.specs.Lives.{is_started, started_after}
use Rattle.sp_schedule_events.specs.declared.event.Event.{Event}
use Rattle.sp_schedule_events.specs.declared.event.Event.TheVariants as events
use Rattle.sp_runs.specs.Lives.{IsOther}

pub more_started : (es : List Event) (e : Event) (u : ℕ) → is_started (es ++ e ∷ []) u ≡ started_after u (is_started es u) e
more_started es e u = fold-append (started_after u) false es (e ∷ [])

as_started : (u : ℕ) (was : Bool) (e : Event) → IsOther e → started_after u was e ≡ was
as_started u was (events.Rel s d p) is = refl
as_started u was (events.Krel s d paths p) is = refl
as_started u was (events.Prio s d prio expiry paths p) is = refl
as_started u was (events.Take d s) is = refl
as_started u was (events.KTake d s) is = refl
as_started u was (events.TakePrio d) is = refl
as_started u was (events.Tick v now) is = refl
as_started u was (events.Weight a b w) is = refl
as_started u was (events.Poll a b) is = refl
as_started u was (events.Pass a b n) is = refl
as_started u was (events.Flip a b n back bit) is = refl
as_started u was (events.Inject a b bytes) is = refl
as_started u was (events.Craft c v key object) is = refl
as_started u was (events.CraftStatus c v s d base have) is = refl
as_started u was (events.Publish u' weights) is = refl
as_started u was (events.CraftDocument c' v' key' version weights) is = refl
as_started u was (events.Start v) is = absurd is
as_started u was (events.Stop v) is = absurd is

pub still_started : (es : List Event) (e : Event) (u : ℕ) → IsOther e → is_started es u ≡ true → is_started (es ++ e ∷ []) u ≡ true
still_started es e u other was = more_started es e u ∙ as_started u (is_started es u) e other ∙ was

-- what reaches a node is neither
pub moves_other : (arts : Arts) (x : Setting) (w : World) (n : NodeState) (e : Event) (input : Input) → input_of arts x w n e ≡ Some input → IsOther e
moves_other arts x w n (events.Rel s d p) input is = tt
moves_other arts x w n (events.Krel s d paths p) input is = tt
moves_other arts x w n (events.Prio s d prio expiry paths p) input is = tt
moves_other arts x w n (events.Take d s) input is = tt
moves_other arts x w n (events.KTake d s) input is = tt
moves_other arts x w n (events.TakePrio d) input is = tt
moves_other arts x w n (events.Tick v now) input is = tt
moves_other arts x w n (events.Weight a b k) input is = tt
moves_other arts x w n (events.Poll a b) input is = tt
moves_other arts x w n (events.Pass a b k) input is = tt
moves_other arts x w n (events.Flip a b k back bit) input is = tt
moves_other arts x w n (events.Inject a b bytes) input is = tt
moves_other arts x w n (events.Craft c v key object) input is = tt
moves_other arts x w n (events.CraftStatus c v s d base have) input is = tt
moves_other arts x w n (events.Publish u' weights) input is = tt
moves_other arts x w n (events.CraftDocument c' v' key' version weights) input is = tt
moves_other arts x w n (events.Start v) input is = absurd cc
moves_other arts x w n (events.Stop v) input is = absurd cc

-- what holds of what is crafted with the key of a node holds of each event that crafts with it
pub of_craft : (P : Event → Type 0) → ((c v key : NodeId) (object : CraftedObject) → P (events.Craft c v key object))
    → ((c v : NodeId) (key version : ℕ) (weights : Option (List ℕ)) → P (events.CraftDocument c v key version weights))
    → (key : NodeId) (e : Event) → IsCraftOf key e → P e
of_craft P objects documents key (events.Craft c v k object) is = objects c v k object
of_craft P objects documents key (events.CraftDocument c v k version weights) is = documents c v k version weights
of_craft P objects documents key (events.Rel s d p) is = absurd is
of_craft P objects documents key (events.Krel s d paths p) is = absurd is
of_craft P objects documents key (events.Prio s d prio expiry paths p) is = absurd is
of_craft P objects documents key (events.Take d s) is = absurd is
of_craft P objects documents key (events.KTake d s) is = absurd is
of_craft P objects documents key (events.TakePrio d) is = absurd is
of_craft P objects documents key (events.Tick v now) is = absurd is
of_craft P objects documents key (events.Weight a b k) is = absurd is
of_craft P objects documents key (events.Poll a b) is = absurd is
of_craft P objects documents key (events.Pass a b k) is = absurd is
of_craft P objects documents key (events.Flip a b k back bit) is = absurd is
of_craft P objects documents key (events.Inject a b bytes) is = absurd is
of_craft P objects documents key (events.CraftStatus c v s d base have) is = absurd is
of_craft P objects documents key (events.Publish v weights) is = absurd is
of_craft P objects documents key (events.Start v) is = absurd is
of_craft P objects documents key (events.Stop v) is = absurd is

pub craft_list : (key : NodeId) (e : Event) → IsCraftOf key e → list_in e ≡ None
craft_list key e is = of_craft (λ f. list_in f ≡ None) (λ c v k object. refl) (λ c v k version weights. refl) key e is

pub craft_other : (key : NodeId) (e : Event) → IsCraftOf key e → IsOther e
craft_other key e is = of_craft IsOther (λ c v k object. tt) (λ c v k version weights. tt) key e is
