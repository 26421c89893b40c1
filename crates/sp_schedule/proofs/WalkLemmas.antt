-- The lines of a schedule lead to its end, each good in its place.
use Rattle.std.proofs.Common.{◌≡◌, ◌≤◌, ◌<◌, ◌+◌, ℕ, Bool, true, false, List, [], ◌∷◌, ◌++◌, length, map, Option, Some, None, Result, Ok, Err, inl, inr, refl}
use Rattle.std.proofs.Common.{sym, ap, ◌∙◌, subst, arith, append_assoc, append-nil, length-append, if◌then◌else◌}
use Rattle.std.specs.Prelude.{All, IfSome, nat_le, nat_lt, ◌==◌, ◌&&◌, ◌^◌}
use Rattle.std.proofs.lemmas.Bool.{and_from, cases_Bool, eq-eqb}
use Rattle.std.proofs.lemmas.Bool.Decides.{nat_tests}
use Rattle.std.proofs.lemmas.List.{map-append}
use Rattle.std.proofs.lemmas.List.Elements.{All-append, All-cons, All-nil}
use Rattle.sp_base.proofs.RefusalLemmas.{then_ok}
use Rattle.sp_base.specs.Formats.{IsFormat, max_edges, max_nodes}
use Rattle.sp_base.specs.declared.format.TheConstants.{FORMAT_1, FORMAT_2}
use Rattle.sp_base.specs.declared.limits.TheConstants.{MAX_EVENTS}
use Rattle.sp_base.specs.declared.id.NodeId.{NodeId}
use Rattle.sp_text.specs.Spelling.{Word}
use Rattle.sp_lines.specs.Rows.{AreIn, fits, line_of}
use Rattle.sp_lines.specs.Texts.{follow_all}
use Rattle.sp_lines.proofs.RowLemmas.{line_back}
use Rattle.sp_lines.proofs.TextLemmas.{IsGoodLine}
use Rattle.sp_lines.proofs.WidthLemmas.{good_row_line}
use Rattle.sp_graph.specs.Edges.{IsEdge, IsGraphIn, IsLower, IsNextEdge, last_edge}
use Rattle.sp_graph.specs.declared.graph.Graph.{Graph}
use Rattle.sp_graph.proofs.Texts.{next_of, with_edges}
use Rattle.sp_topology.specs.declared.topology.Edge.{Edge}
use Rattle.sp_topology.specs.declared.topology.LmsHeight.{LmsHeight}
use Rattle.sp_topology.specs.declared.topology.LmsHeight.TheVariants.{Five, Ten}
use Rattle.sp_schedule_events.specs.Events.{event_words}
use Rattle.sp_schedule_events.specs.EventLines.{InRange, read_event}
use Rattle.sp_schedule_events.specs.declared.scenario.Scenario.{Scenario}
use Rattle.sp_schedule_events.specs.declared.event.Event.{Event}
use Rattle.sp_schedule_events.specs.declared.event.Event.TheVariants as events
use Rattle.sp_schedule_crafts.specs.declared.object.CraftedObject.TheVariants as crafted
use Rattle.sp_lines.specs.declared.fault.Fault.{Fault}
use Rattle.sp_schedule.specs.declared.refused.Kind.TheVariants as kinds
use Rattle.sp_schedule_events.proofs.EventLemmas.{events_have_one_line, good_event_line, nodes_small}
use Rattle.sp_schedule.specs.Header.{bad_cells, begin_cells, bounds_cells, bounds_values, edge_cells, edge_values, end_cells, epochs_cells, height_cells}
use Rattle.sp_schedule.specs.Header.{height_number, next_after, nodes_cells, seed_cells, version_cells}
use Rattle.sp_schedule.specs.Lines.{bare, event_more, is_above, is_lower, is_next_edge, says, with_epochs}
use Rattle.sp_schedule.specs.Scenarios.{AreInRange, Ascend, IsScenario, IsSchedule, None_yet, One_more}
use Rattle.sp_schedule.specs.Spelling.{bad_words, begin_words, bounds_words, edge_words, end_words, epochs_lines, epochs_words, front_lines, header_lines}
use Rattle.sp_schedule.specs.Spelling.{height_words, nodes_words, schedule_lines, seed_words, version_words}
use Rattle.sp_schedule.specs.declared.stage.Stage.{Stage}
use Rattle.sp_schedule.specs.declared.stage.Stage.TheVariants as stages

-- these lines, which can be read, lead from one stage to another
record Follows (stage : Stage) (lines : List (List Word)) (last : Stage) : Type 0 where
  pub good : All IsGoodLine lines
  pub follows : follow_all says stage lines ≡ Ok last

none : (stage : Stage) → Follows stage [] stage
none stage = record { good = All-nil IsGoodLine; follows = refl }

one : (stage next : Stage) (words : List Word) → IsGoodLine words → says stage words ≡ Ok next → Follows stage (words ∷ []) next
one stage next words good is = record { good = All-cons IsGoodLine words [] good (All-nil IsGoodLine); follows = rw is refl }

follow_then : (front back : List (List Word)) (stage mid last : Stage) → follow_all says stage front ≡ Ok mid → follow_all says mid back ≡ Ok last
    → follow_all says stage (front ++ back) ≡ Ok last
follow_then [] back stage mid last first second = let at : stage ≡ mid = cc in subst (λ (z : Stage). follow_all says z back ≡ Ok last) (sym at) second
follow_then (words ∷ front) back stage mid last first second =
    let step = then_ok (says stage words) (λ next. follow_all says next front) mid first in
    rw step.1 (follow_then front back step.0 mid last step.2 second)

both : (front back : List (List Word)) (stage mid last : Stage) → Follows stage front mid → Follows mid back last → Follows stage (front ++ back) last
both front back stage mid last first second = record {
  good = All-append IsGoodLine front back first.good second.good;
  follows = follow_then front back stage mid last first.follows second.follows;
}

-- ---- the header

height_is : (h : LmsHeight) → (5 ≤ height_number h) × (height_number h ≤ 10)
height_is Five = (omega arith, omega arith)
height_is Ten = (omega arith, omega arith)

height_line : (format : ℕ) (seed : List ℕ) (h : LmsHeight) → says (stages.Seed format seed) (height_words h) ≡ Ok (stages.Height format seed h)
height_line format seed Five = rw (line_back height_cells (5, tt) (omega arith, tt) (omega arith, omega arith, refl, tt)) refl
height_line format seed Ten = rw (line_back height_cells (10, tt) (omega arith, tt) (omega arith, omega arith, refl, tt)) refl

height_good : (h : LmsHeight) → IsGoodLine (height_words h)
height_good Five = good_row_line height_cells (5, tt) refl (omega arith, omega arith, refl, tt)
height_good Ten = good_row_line height_cells (10, tt) refl (omega arith, omega arith, refl, tt)

-- a format may stand in the first line
in_first_line : (n : ℕ) → IsFormat n → (FORMAT_1 ≤ n) × (n ≤ FORMAT_2)
in_first_line n (inl one) = rw one (omega arith, omega arith)
in_first_line n (inr two) = rw two (omega arith, omega arith)

front_follows : (s : Scenario) → IsScenario s
    → Follows stages.Start (front_lines s.format s.seed s.height s.limits s.graph.nodes) (stages.Edges (bare s.format s.seed s.height s.limits s.graph.nodes))
front_follows s good =
    let format_is = in_first_line s.format good.format in
    let seed : AreIn seed_cells (s.seed, tt) = ((omega (arith, good.seed.0), omega (arith, good.seed.0), good.seed.1), tt) in
    let bounds : AreIn bounds_cells (bounds_values s.limits) = (good.limits.buffer.0, good.limits.buffer.1, (good.limits.store.0, good.limits.store.1, tt)) in
    let nodes : AreIn (nodes_cells s.format) (s.graph.nodes, tt) = (good.graph.nodes.0, good.graph.nodes.1, tt) in
    let version : AreIn version_cells (s.format, tt) = (format_is.0, format_is.1, tt) in
    let room : nat_lt (max_nodes s.format) (2 ^ 64) ≡ true = grind (arith, nat_tests, nodes_small s.format) in
    let a = one stages.Start (stages.Version s.format) (version_words s.format) (good_row_line version_cells (s.format, tt) refl version)
    (rw (line_back version_cells (s.format, tt) (omega arith, tt) version) refl) in
    let b = one (stages.Version s.format) (stages.Seed s.format s.seed) (seed_words s.seed) (good_row_line seed_cells (s.seed, tt) refl seed)
    (rw (line_back seed_cells (s.seed, tt) tt seed) refl) in
    let c = one (stages.Seed s.format s.seed) (stages.Height s.format s.seed s.height) (height_words s.height) (height_good s.height)
    (height_line s.format s.seed s.height) in
    let d = one (stages.Height s.format s.seed s.height) (stages.Bounds s.format s.seed s.height s.limits) (bounds_words s.limits)
    (good_row_line bounds_cells (bounds_values s.limits) refl bounds)
    (rw (line_back bounds_cells (bounds_values s.limits) (omega arith, (omega arith, tt)) bounds) refl) in
    let e = one (stages.Bounds s.format s.seed s.height s.limits) (stages.Edges (bare s.format s.seed s.height s.limits s.graph.nodes))
    (nodes_words s.graph.nodes)
    (good_row_line (nodes_cells s.format) (s.graph.nodes, tt) (rw room refl) nodes)
    (rw (line_back (nodes_cells s.format) (s.graph.nodes, tt) (nodes_small s.format, tt) nodes) refl) in
    both (version_words s.format ∷ []) _ _ _ _ a
    (both (seed_words s.seed ∷ []) _ _ _ _ b (both (height_words s.height ∷ []) _ _ _ _ c (both (bounds_words s.limits ∷ []) _ _ _ _ d e)))

-- ---- edges

lower_is : (f e : Edge) → IsLower f e → is_lower f e ≡ true
lower_is f e (inl less) = let first : nat_lt f.low.0 e.low.0 ≡ true = grind (arith, nat_tests, less) in rw first refl
lower_is f e (inr tie) =
    let here : (f.low.0 == e.low.0) ≡ true = eq-eqb f.low.0 e.low.0 tie.0 in
    let less : nat_lt f.high.0 e.high.0 ≡ true = let h = tie.1 in grind (arith, nat_tests, h) in
    elim (cases_Bool (nat_lt f.low.0 e.low.0)) [
      | inl first ↦ rw first refl
      | inr first ↦ rw (first, here, less) refl
    ]

above_is : (last : Option Edge) (e : Edge) → IfSome last (λ f. IsLower f e) → is_above last e ≡ true
above_is None e is = refl
above_is (Some f) e is = lower_is f e is

next_is : (format : ℕ) (g : Graph) (e : Edge) → IsNextEdge format g e → is_next_edge format g e ≡ true
next_is format g e is =
    let less : nat_lt e.low.0 e.high.0 ≡ true = let h = is.ends.1 in grind (arith, nat_tests, h) in
    let few : nat_lt (length g.edges) (max_edges format) ≡ true = let h = is.few in grind (arith, nat_tests, h) in
    and_from (nat_lt e.low.0 e.high.0 && is_above (last_edge g.edges) e) (nat_lt (length g.edges) (max_edges format))
    (and_from (nat_lt e.low.0 e.high.0) (is_above (last_edge g.edges) e) less (above_is (last_edge g.edges) e is.ascends)) few

-- the scenario with these edges alone, no compromised node, and no epochs
abbrev edges_so_far : Scenario → List Edge → Scenario
edges_so_far s edges =
    record { format = s.format; seed = s.seed; height = s.height; limits = s.limits; graph = with_edges s.graph edges; bad = []; epochs = false }

few_nodes : (format n : ℕ) → n ≤ max_nodes format → nat_lt n (2 ^ 64) ≡ true
few_nodes format n few = grind (arith, nat_tests, few, nodes_small format)

edge_in : (s : Scenario) (e : Edge) → IsEdge s.graph.nodes e → AreIn (edge_cells s.graph.nodes) (edge_values s.graph.nodes e)
edge_in s e is = (is.0, omega (arith, is.1, is.2), (omega (arith, is.0, is.1), is.2, (is.3.0, is.3.1, tt)))

edge_good : (s : Scenario) (e : Edge) → s.graph.nodes ≤ max_nodes s.format → IsEdge s.graph.nodes e → IsGoodLine (edge_words e)
edge_good s e few is = good_row_line (edge_cells s.graph.nodes) (edge_values s.graph.nodes e) (rw (few_nodes s.format s.graph.nodes few) refl) (edge_in s e is)

edge_line : (s : Scenario) (front : List Edge) (e : Edge) → s.graph.nodes ≤ max_nodes s.format → IsEdge s.graph.nodes e
    → IsNextEdge s.format (with_edges s.graph front) e
    → says (stages.Edges (edges_so_far s front)) (edge_words e) ≡ Ok (stages.Edges (edges_so_far s (front ++ e ∷ [])))
edge_line s front e few is next =
    let room : s.graph.nodes < 2 ^ 64 = omega (arith, few, nodes_small s.format) in
    let read : line_of (edge_cells s.graph.nodes) (edge_words e) ≡ Ok (edge_values s.graph.nodes e) =
    line_back (edge_cells s.graph.nodes) (edge_values s.graph.nodes e) (room, (room, (omega arith, tt))) (edge_in s e is) in
    rw read (rw (next_is s.format (with_edges s.graph front) e next) refl)

edges_follow : (s : Scenario) (front back : List Edge) → IsGraphIn s.format s.graph → s.graph.edges ≡ front ++ back
    → Follows (stages.Edges (edges_so_far s front)) (map edge_words back) (stages.Edges (edges_so_far s s.graph.edges))
edges_follow s front [] good is =
    let all : front ≡ s.graph.edges = sym (is ∙ append-nil front) in
    subst (λ (es : List Edge). Follows (stages.Edges (edges_so_far s front)) [] (stages.Edges (edges_so_far s es))) all
    (none (stages.Edges (edges_so_far s front)))
edges_follow s front (e ∷ back) good is =
    let next = next_of s.format s.graph front back e good is in
    let few = good.nodes.1 in
    let first = one (stages.Edges (edges_so_far s front)) (stages.Edges (edges_so_far s (front ++ e ∷ []))) (edge_words e) (edge_good s e few next.0)
    (edge_line s front e few next.0 next.1) in
    both (edge_words e ∷ []) (map edge_words back) _ _ _ first (edges_follow s (front ++ e ∷ []) back good (is ∙ sym (append_assoc front (e ∷ []) back)))

-- ---- compromised nodes

-- the scenario with these compromised nodes alone, and no epochs
abbrev bads_so_far : Scenario → List NodeId → Scenario
bads_so_far s bad = record { format = s.format; seed = s.seed; height = s.height; limits = s.limits; graph = s.graph; bad = bad; epochs = false }

next_after_append : (low : ℕ) (front : List NodeId) (b : NodeId) → next_after low (front ++ b ∷ []) ≡ b.0 + 1
next_after_append low [] b = refl
next_after_append low (c ∷ front) b = next_after_append (c.0 + 1) front b

bad_read : (s : Scenario) (front : List NodeId) (b : NodeId) → s.graph.nodes ≤ max_nodes s.format → next_after 1 front ≤ b.0 → b.0 ≤ s.graph.nodes
    → line_of (bad_cells (next_after 1 front) s.graph.nodes) (bad_words b) ≡ Ok (b.0, tt)
bad_read s front b few above below =
    line_back (bad_cells (next_after 1 front) s.graph.nodes) (b.0, tt) (omega (arith, few, nodes_small s.format), tt) (above, below, tt)

bad_good : (s : Scenario) (b : NodeId) → s.graph.nodes ≤ max_nodes s.format → b.0 ≤ s.graph.nodes → IsGoodLine (bad_words b)
bad_good s b few below = good_row_line (bad_cells 0 s.graph.nodes) (b.0, tt) (rw (few_nodes s.format s.graph.nodes few) refl) (omega arith, below, tt)

bads_follow : (s : Scenario) (front back : List NodeId) → s.graph.nodes ≤ max_nodes s.format → Ascend (next_after 1 front) s.graph.nodes back
    → Follows (stages.Bads (bads_so_far s front)) (map bad_words back) (stages.Bads (bads_so_far s (front ++ back)))
bads_follow s front [] few good =
    subst (λ (bs : List NodeId). Follows (stages.Bads (bads_so_far s front)) [] (stages.Bads (bads_so_far s bs))) (sym (append-nil front))
    (none (stages.Bads (bads_so_far s front)))
bads_follow s front (b ∷ back) few good =
    let read = bad_read s front b few good.0 good.1 in
    let first = one (stages.Bads (bads_so_far s front)) (stages.Bads (bads_so_far s (front ++ b ∷ []))) (bad_words b) (bad_good s b few good.1)
    (rw read refl) in
    let rest = bads_follow s (front ++ b ∷ []) back few (rw (next_after_append 1 front b) good.2) in
    let all : Follows (stages.Bads (bads_so_far s (front ++ b ∷ []))) (map bad_words back) (stages.Bads (bads_so_far s (front ++ b ∷ back))) =
    subst (λ (bs : List NodeId). Follows (stages.Bads (bads_so_far s (front ++ b ∷ []))) (map bad_words back) (stages.Bads (bads_so_far s bs)))
    (append_assoc front (b ∷ []) back) rest in
    both (bad_words b ∷ []) (map bad_words back) _ _ _ first all

begin_good : IsGoodLine begin_words
begin_good = good_row_line begin_cells tt refl tt

-- ---- `epochs` and `begin`

epochs_good : IsGoodLine epochs_words
epochs_good = good_row_line epochs_cells tt refl tt

-- the scenario with epochs or without
abbrev with_life : Scenario → Bool → Scenario
with_life s epochs = record { format = s.format; seed = s.seed; height = s.height; limits = s.limits; graph = s.graph; bad = s.bad; epochs = epochs }

-- what leads to the events of a scenario without epochs, and to the line `epochs`, leads to those of the scenario
begin_follows : (s : Scenario) (stage : Stage) → IsScenario s → says stage begin_words ≡ Ok (stages.Events (with_life s false) [])
    → (s.format ≡ FORMAT_2 → says stage epochs_words ≡ Ok (stages.Epochs (with_life s true)))
    → Follows stage (epochs_lines s ++ begin_words ∷ []) (stages.Events s [])
begin_follows s stage good begin epochs = go s.epochs refl
  where
    go : (b : Bool) → s.epochs ≡ b → Follows stage ((if b then epochs_words ∷ [] else []) ++ begin_words ∷ []) (stages.Events (with_life s b) [])
    go false is = one stage (stages.Events (with_life s false) []) begin_words begin_good begin
    go true is =
        both (epochs_words ∷ []) (begin_words ∷ []) _ _ _ (one stage (stages.Epochs (with_life s true)) epochs_words epochs_good (epochs (good.epochs is)))
        (one (stages.Epochs (with_life s true)) (stages.Events (with_life s true) []) begin_words begin_good refl)

in_format_2 : (format : ℕ) → format ≡ FORMAT_2 → (format == FORMAT_2) ≡ true
in_format_2 format is = eq-eqb format FORMAT_2 is

bads_and_begin : (s : Scenario) (bad : List NodeId) → IsScenario s → s.bad ≡ bad → Ascend 1 s.graph.nodes bad
    → Follows (stages.Edges (bads_so_far s [])) (map bad_words bad ++ (epochs_lines s ++ begin_words ∷ [])) (stages.Events s [])
bads_and_begin s [] good is ascend =
    begin_follows s (stages.Edges (bads_so_far s [])) good (ap (λ (bs : List NodeId). Ok (stages.Events (bads_so_far s bs) [])) (sym is))
    (λ two. rw (in_format_2 s.format two) (ap (λ (bs : List NodeId). Ok (stages.Epochs (with_epochs (bads_so_far s bs)))) (sym is)))
bads_and_begin s (b ∷ back) good is ascend =
    let few = good.graph.nodes.1 in
    let read = bad_read s [] b few ascend.0 ascend.1 in
    let first = one (stages.Edges (bads_so_far s [])) (stages.Bads (bads_so_far s (b ∷ []))) (bad_words b) (bad_good s b few ascend.1) (rw read refl) in
    let rest = bads_follow s (b ∷ []) back few ascend.2 in
    let begin = begin_follows s (stages.Bads (bads_so_far s (b ∷ back))) good (ap (λ (bs : List NodeId). Ok (stages.Events (bads_so_far s bs) [])) (sym is))
    (λ two. rw (in_format_2 s.format two) (ap (λ (bs : List NodeId). Ok (stages.Epochs (with_epochs (bads_so_far s bs)))) (sym is))) in
    both (bad_words b ∷ []) (map bad_words back ++ (epochs_lines s ++ begin_words ∷ [])) _ _ _ first
    (both (map bad_words back) (epochs_lines s ++ begin_words ∷ []) _ _ _ rest begin)

header_follows : (s : Scenario) → IsScenario s → Follows stages.Start (header_lines s) (stages.Events s [])
header_follows s good =
    let start = front_lines s.format s.seed s.height s.limits s.graph.nodes in
    let last = epochs_lines s ++ begin_words ∷ [] in
    let front = front_follows s good in
    let edges = edges_follow s [] s.graph.edges good.graph refl in
    let bads = bads_and_begin s s.bad good refl good.bad in
    let all = both start (map edge_words s.graph.edges ++ (map bad_words s.bad ++ last)) _ _ _ front
    (both (map edge_words s.graph.edges) (map bad_words s.bad ++ last) _ _ _ edges bads) in
    let lines : start ++ (map edge_words s.graph.edges ++ (map bad_words s.bad ++ last)) ≡ header_lines s =
    ap (λ (xs : List (List Word)). start ++ xs) (sym (append_assoc (map edge_words s.graph.edges) (map bad_words s.bad) last))
    ∙ sym (append_assoc start (map edge_words s.graph.edges ++ map bad_words s.bad) last) in
    subst (λ (ls : List (List Word)). Follows stages.Start ls (stages.Events s [])) lines all

-- ---- events

-- the line of an event isn't `end`
end_not : (s : Scenario) (e : Event) → fits end_cells (event_words s e) ≡ false
end_not z (events.Rel s d payload) = refl
end_not z (events.Prio s d prio expiry paths payload) = refl
end_not z (events.Take d s) = refl
end_not z (events.TakePrio d) = refl
end_not z (events.Tick u now) = refl
end_not z (events.Weight u v weight) = refl
end_not z (events.Poll u v) = refl
end_not z (events.Pass u v n) = refl
end_not z (events.Flip u v n back bit) = refl
end_not z (events.Inject u v bytes) = refl
end_not z (events.CraftStatus c v s d base have) = refl
end_not z (events.Craft c v key (crafted.Rel r)) = refl
end_not z (events.Craft c v key (crafted.Ack a)) = refl
end_not z (events.Craft c v key (crafted.Prio p)) = refl
end_not z (events.Craft c v key (crafted.Weight w)) = refl
end_not z (events.Craft c v key (crafted.Krel r)) = refl
end_not z (events.Craft c v key (crafted.Kack a)) = refl
end_not z (events.Start u) = refl
end_not z (events.Stop u) = refl
end_not z (events.Publish u weights) = refl
end_not z (events.Krel s d paths payload) = refl
end_not z (events.KTake d s) = refl
end_not z (events.CraftDocument c v key version weights) = refl

event_line : (s : Scenario) (es : List Event) (e : Event) → s.graph.nodes ≤ max_nodes s.format → length es < MAX_EVENTS → InRange s es e
    → says (stages.Events s es) (event_words s e) ≡ Ok (stages.Events s (es ++ e ∷ []))
event_line s es e few room is =
    let read : read_event s es (event_words s e) ≡ Ok e = (events_have_one_line s es (event_words s e) e few).1 (is, refl) in
    let more : nat_le MAX_EVENTS (length es) ≡ false = grind (arith, nat_tests, room) in
    go (fits end_cells (event_words s e)) (nat_le MAX_EVENTS (length es)) (read_event s es (event_words s e)) (end_not s e) more read
  where
    go : (a b : Bool) (r : Result Event Fault) → a ≡ false → b ≡ false → r ≡ Ok e
        → (if a then Ok (stages.End s es) else (if b then Err kinds.TooMany else event_more s es r)) ≡ Ok (stages.Events s (es ++ e ∷ []))
    go a b r no_end some read = rw (no_end, some, read) refl

events_follow : (s : Scenario) (es : List Event) → s.graph.nodes ≤ max_nodes s.format → length s.graph.edges ≤ max_edges s.format → AreInRange s es
    → length es ≤ MAX_EVENTS
    → Follows (stages.Events s []) (map (event_words s) es) (stages.Events s es)
events_follow s es few many None_yet count = none (stages.Events s [])
events_follow s es few many (One_more {before = before} e are is) count =
    let room : length before < MAX_EVENTS = omega (arith, count, length-append before (e ∷ [])) in
    let front = events_follow s before few many are (omega (arith, room)) in
    let last = one (stages.Events s before) (stages.Events s (before ++ e ∷ [])) (event_words s e) (good_event_line s before e few many is)
    (event_line s before e few room is) in
    subst (λ (ls : List (List Word)). Follows (stages.Events s []) ls (stages.Events s (before ++ e ∷ []))) (sym (map-append (event_words s) before (e ∷ [])))
    (both (map (event_words s) before) (event_words s e ∷ []) _ _ _ front last)

-- a schedule's lines lead to its end
pub schedule_follows : (s : Scenario) (es : List Event) → IsSchedule s es
    → (All IsGoodLine (schedule_lines s es)) × (follow_all says stages.Start (schedule_lines s es) ≡ Ok (stages.End s es))
schedule_follows s es good =
    let few = good.scenario.graph.nodes.1 in
    let end = one (stages.Events s es) (stages.End s es) end_words (good_row_line end_cells tt refl tt) refl in
    let back = both (map (event_words s) es) (end_words ∷ []) _ _ _ (events_follow s es few good.scenario.graph.few good.events good.count) end in
    let all = both (header_lines s) (map (event_words s) es ++ end_words ∷ []) _ _ _ (header_follows s good.scenario) back in
    (all.good, all.follows)
