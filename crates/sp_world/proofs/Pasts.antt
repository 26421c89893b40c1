-- What a world keeps, it keeps over one more event.
use Rattle.std.proofs.Common.{◌≡◌, ℕ, zero, suc, ◌+◌, ◌≤◌, true, List, [], ◌∷◌, ◌++◌, Option, None, Some, refl, sym, ap, ◌∙◌, subst}
use Rattle.std.proofs.Common.{◌<◌, length, map, replicate, arith}
use Rattle.sp_adversary.specs.Crafters.{Crafters, crafters_of, no_crafts}
use Rattle.sp_base.specs.declared.limits.TheConstants.{MAX_EVENTS}
use Rattle.sp_journal.specs.declared.entry.Entry.{Entry}
use Rattle.sp_keystate.specs.States.{first_numbers}
use Rattle.sp_keystate.specs.declared.numbers.Numbers.{Numbers}
use Rattle.laws_runs_format.specs.Arts.{arts_of}
use Rattle.sp_runs.specs.Inputs.{acting}
use Rattle.sp_runs.specs.Runs as runs
use Rattle.sp_runs.specs.Runs.{Clean, InRange}
use Rattle.std.specs.List.{range_with_len}
use Rattle.sp_runs.specs.Scenarios.{IsHeader, node_key, setting_of, topology_of}
use Rattle.sp_topology.specs.declared.topology.LmsHeight.{LmsHeight}
use Rattle.sp_rules.specs.Masks.{greatest_id}
use Rattle.sp_rules.specs.Node.{NodeState}
use Rattle.sp_runs.specs.Worlds.{Direction, World, at_start}
use Rattle.sp_runs.specs.declared.what.What.{What}
use Rattle.sp_schedule_events.specs.Documents.{none_published}
use Rattle.sp_schedule_events.specs.declared.event.Event.{Event}
use Rattle.sp_schedule_events.specs.declared.published.Published.{Published}
use Rattle.sp_schedule_events.specs.declared.scenario.Scenario.{Scenario}
use Rattle.sp_world.specs.Boots.{Home, IsHome}
use Rattle.sp_world.specs.Kept.{IsKept}
use Rattle.sp_world.specs.Past.{GoesOn, IsLeft, IsUndone, IsWithout, Past}
use Rattle.sp_world.specs.Stands.{IsTold, Stands}
use Rattle.sp_world.specs.declared.refused.WorldRefused.{WorldRefused}
use Rattle.sp_world.specs.declared.refused.WorldRefused.TheVariants as refusals

-- a world that hasn't stopped
abbrev pub going : Scenario → List Event → List Entry → World → Past
going s es js w = record { scenario = s; events = es; journal = js; world = w; stopped = None }

-- one that has
abbrev pub stopped_by : Scenario → List Event → List Entry → World → WorldRefused → Past
stopped_by s es js w refused = record { scenario = s; events = es; journal = js; world = w; stopped = Some refused }

-- the world of one that hasn't is the last of its run
pub still_last : (s : Scenario) (es : List Event) (js : List Entry) (w : World) (len : ℕ) (c : Crafters) (home : Home) (t : Option WorldRefused)
    → (kept : IsKept (record { scenario = s; events = es; journal = js; world = w; stopped = t }) len c home) → t ≡ None → w ≡ kept.past.last
still_last s es js w len c home t kept is = subst (λ (u : Option WorldRefused). IsLeft (setting_of s) u kept.past.last w) is kept.past.left

pub stands : (s : Scenario) (es : List Event) (js : List Entry) (w : World) (e : Event) (len : ℕ) (c : Crafters) (home : Home) (t : Option WorldRefused)
    → IsKept (record { scenario = s; events = es; journal = js; world = w; stopped = t }) len c home → t ≡ None → InRange (setting_of s) es e
    → length es < MAX_EVENTS → Stands s es js w e
stands s es js w e len c home t kept is range few = record {
  header = kept.past.header;
  clean = subst (λ (v : World). Clean (arts_of (setting_of s)) (setting_of s) es js v) (sym (still_last s es js w len c home t kept is)) kept.past.clean;
  range = range;
  few = few;
}

pub kept_on : (s : Scenario) (es es' : List Event) (js js' : List Entry) (w w' : World) (e : Event) (j : Entry) (len : ℕ) (c c' : Crafters) (home : Home)
    → (t : Option WorldRefused) → IsKept (record { scenario = s; events = es; journal = js; world = w; stopped = t }) len c home → Stands s es js w e
    → IsTold (setting_of s) es js w e j w' → c' ≡ crafters_of s c'.keys → es' ≡ es ++ e ∷ [] → js' ≡ js ++ j ∷ []
    → IsKept (going s es' js' w') len c' home
kept_on s es es' js js' w w' e j len c c' home t kept st told crafters events_are journal_is = rw (events_are, journal_is) (record {
  past = record {
    header = st.header;
    last = w';
    clean = runs.Turned st.clean st.range told.turn told.unforged;
    left = refl;
  };
  long = kept.long;
  crafters = crafters;
  home = kept.home;
})

-- where something of the event is forged, the node that acted in it is gone
pub kept_forged : (s : Scenario) (es es' : List Event) (js js' : List Entry) (w w' : World) (e : Event) (number : ℕ) (what : What) (len : ℕ) (c c' : Crafters)
    → (home : Home) (t : Option WorldRefused) → IsKept (record { scenario = s; events = es; journal = js; world = w; stopped = t }) len c home → t ≡ None
    → IsWithout w (acting e) w' → c' ≡ crafters_of s c'.keys
    → es' ≡ es → js' ≡ js
    → IsKept (stopped_by s es' js' w' (refusals.Forged number what)) len c' home
kept_forged s es es' js js' w w' e number what len c c' home t kept going gone crafters events_are journal_is =
    let same : w ≡ kept.past.last = still_last s es js w len c home t kept going in
    rw (events_are, journal_is) (record {
      past = record {
        header = kept.past.header;
        last = kept.past.last;
        clean = kept.past.clean;
        left = (acting e, subst (λ (v : World). IsWithout v (acting e) w') same gone);
      };
      long = kept.long;
      crafters = crafters;
      home = kept.home;
    })

-- where memory was wanted, all is as before, but for indexes that were reserved
pub kept_undone : (s : Scenario) (es es' : List Event) (js js' : List Entry) (w w' : World) (e : Event) (len : ℕ) (c c' : Crafters) (home : Home)
    → (t : Option WorldRefused) → IsKept (record { scenario = s; events = es; journal = js; world = w; stopped = t }) len c home → t ≡ None
    → IsUndone (setting_of s) w e w' → c' ≡ crafters_of s c'.keys
    → es' ≡ es → js' ≡ js
    → IsKept (stopped_by s es' js' w' refusals.Memory) len c' home
kept_undone s es es' js js' w w' e len c c' home t kept going undone crafters events_are journal_is =
    let same : w ≡ kept.past.last = still_last s es js w len c home t kept going in
    rw (events_are, journal_is) (record {
      past = record {
        header = kept.past.header;
        last = kept.past.last;
        clean = kept.past.clean;
        left = (e, subst (λ (v : World). IsUndone (setting_of s) v e w') same undone);
      };
      long = kept.long;
      crafters = crafters;
      home = kept.home;
    })

pub goes_on : (s : Scenario) (es es' : List Event) (js js' : List Entry) (w w' : World) (e : Event) (j : Entry) → IsTold (setting_of s) es js w e j w'
    → es' ≡ es ++ e ∷ [] → js' ≡ js ++ j ∷ [] → GoesOn (going s es js w) e (going s es' js' w')
goes_on s es es' js js' w w' e j told events_are journal_is = record {
  was_going = refl;
  entry = j;
  scenario = refl;
  events = events_are;
  journal = journal_is;
  going = refl;
  turn = told.turn;
  unforged = told.unforged;
}

-- ---- before the first event

-- the last number is the greatest id
greatest : (h : LmsHeight) (seed : List ℕ) (first count : ℕ) → greatest_id (map (node_key h seed) (range_with_len first (suc count))) ≡ first + count
greatest h seed first zero = omega arith
greatest h seed first (suc count) = let rest = greatest h seed (first + 1) count in omega (arith, rest)

-- a graph has a node
pub files_are : (s : Scenario) → IsHeader s → replicate s.graph.nodes first_numbers ≡ replicate (greatest_id (topology_of s).nodes) first_numbers
files_are s header = go s.graph.nodes header.graph.nodes.0
  where
    go : (n : ℕ) → 2 ≤ n → replicate n first_numbers ≡ replicate (greatest_id (map (node_key s.height s.seed) (range_with_len 1 n))) first_numbers
    go zero few = absurd (omega (arith, few))
    go (suc n) few =
        let most = greatest s.height s.seed 1 n in
        let same : suc n ≡ greatest_id (map (node_key s.height s.seed) (range_with_len 1 (suc n))) = omega (arith, most) in
        ap (λ (k : ℕ). replicate k first_numbers) same

-- with these nodes
pub at_first_plain : (s : Scenario) (keys : List Numbers) (nodes : List NodeState) (ds : List Direction) (c : Crafters) (last : Published) → IsHeader s
    → keys ≡ replicate s.graph.nodes first_numbers → nodes ≡ (at_start (setting_of s)).nodes → ds ≡ [] → c ≡ no_crafts s → last ≡ none_published
    → record { keys = keys; nodes = nodes; directions = ds; crafted = c.keys; published = last } ≡ at_start (setting_of s)
at_first_plain s keys nodes ds c last header files booted none fresh first = rw (files ∙ files_are s header, booted, none, fresh, first) refl

-- with epochs none has started
pub at_first_stopped : (s : Scenario) (nodes : List NodeState) → s.epochs ≡ true → nodes ≡ [] → nodes ≡ (at_start (setting_of s)).nodes
at_first_stopped s nodes on none = none ∙ sym (rw on refl)

pub kept_at_first : (s : Scenario) (es : List Event) (js : List Entry) (w : World) (len : ℕ) (c : Crafters) (home : Home) → es ≡ [] → js ≡ [] → IsHeader s
    → w ≡ at_start (setting_of s) → len ≡ (setting_of s).signature_len → c ≡ crafters_of s c.keys → IsHome s home → IsKept (going s es js w) len c home
kept_at_first s es js w len c home no_event no_entry header first long crafters ours = rw (no_event, no_entry, first) (record {
  past = record {
    header = header;
    last = at_start (setting_of s);
    clean = runs.Starts;
    left = refl;
  };
  long = long;
  crafters = crafters;
  home = ours;
})
