-- What holds at each stage of a schedule, and which lines led to it.
use Rattle.std.proofs.Common.{◌≡◌, ◌≤◌, ◌<◌, ◌+◌, ◌==◌, ◌&&◌, ◌⊎◌, ℕ, inl, inr, Bool, true, false, List, [], ◌∷◌, ◌++◌, length, map, Option, Some, None, Result}
use Rattle.std.proofs.Common.{Ok, Err, refl, sym, ap, ◌∙◌, subst, arith, append_assoc, append-nil, length-append, if◌then◌else◌}
use Rattle.std.specs.Prelude.{IfSome, nat_le, nat_lt}
use Rattle.std.proofs.lemmas.Bool.{and_parts, cases_Bool, eqb-true}
use Rattle.std.proofs.lemmas.Bool.Decides.{nat_tests}
use Rattle.std.proofs.lemmas.List.{map-append}
use Rattle.sp_base.proofs.RefusalLemmas.{then_ok}
use Rattle.sp_base.specs.Formats.{IsFormat, max_edges}
use Rattle.sp_base.specs.declared.format.TheConstants.{FORMAT_1, FORMAT_2}
use Rattle.sp_base.specs.declared.limits.TheConstants.{MAX_EVENTS}
use Rattle.sp_base.specs.declared.id.NodeId.{NodeId}
use Rattle.sp_text.specs.Spelling.{Word}
use Rattle.sp_lines.specs.Cells.{Name, same}
use Rattle.sp_lines.specs.Rows.{AreIn, fits, line_of, spelled}
use Rattle.sp_lines.specs.Texts.{follow_all}
use Rattle.sp_lines.specs.declared.fault.Fault.{Fault}
use Rattle.sp_lines.specs.declared.fault.Fault.TheVariants as faults
use Rattle.sp_lines.proofs.RowLemmas.{line_read}
use Rattle.sp_lines.proofs.Words.{same_words}
use Rattle.sp_graph.specs.Edges.{IsLower, IsNextEdge, last_edge}
use Rattle.sp_graph.specs.declared.graph.Graph.{Graph}
use Rattle.sp_graph.proofs.GraphLemmas.{graph_grows}
use Rattle.sp_topology.specs.declared.topology.Edge.{Edge}
use Rattle.sp_schedule_events.specs.Events.{event_words}
use Rattle.sp_schedule_events.specs.EventLines.{read_event}
use Rattle.sp_schedule_events.specs.declared.scenario.Scenario.{Scenario}
use Rattle.sp_schedule_events.specs.declared.event.Event.{Event}
use Rattle.sp_schedule_events.proofs.EventLemmas.{events_have_one_line}
use Rattle.sp_schedule.specs.Feeds.{lines_to}
use Rattle.sp_schedule.specs.Header.{bad_cells, begin_cells, bounds_cells, edge_cells, edge_of, end_cells, epochs_cells, height_at, height_cells, height_number}
use Rattle.sp_schedule.specs.Header.{is_height, limits_of, next_after, nodes_cells, seed_cells, version_cells}
use Rattle.sp_schedule.specs.Lines.{bad_node, bare, event_more, header, if_next, is_above, is_lower, is_next_edge, next_edge, says, says_bad, says_edge}
use Rattle.sp_schedule.specs.Lines.{says_epochs, with_bad, with_edge, with_epochs}
use Rattle.sp_schedule.specs.Readings.{IsGoodStage}
use Rattle.sp_schedule.specs.Scenarios.{AreBounds, Ascend, IsScenario, IsSchedule, IsSeed, None_yet, One_more}
use Rattle.sp_schedule.specs.Spelling.{bad_words, begin_words, bounds_words, edge_words, end_words, epochs_lines, epochs_words, front_lines, header_lines}
use Rattle.sp_schedule.specs.Spelling.{height_words, scenario_lines, seed_words, version_words}
use Rattle.sp_schedule.specs.declared.refused.Kind.TheVariants as kinds
use Rattle.sp_schedule.specs.declared.stage.Stage.{Stage}
use Rattle.sp_schedule.specs.declared.stage.Stage.TheVariants as stages

-- all that was read is in its ranges
abbrev pub AreGood : Stage → Type 0
AreGood stages.Start = Unit {0}
AreGood (stages.Version format) = IsFormat format
AreGood (stages.Seed format seed) = IsFormat format × IsSeed seed
AreGood (stages.Height format seed height) = IsFormat format × IsSeed seed
AreGood (stages.Bounds format seed height limits) = IsFormat format × IsSeed seed × AreBounds limits
AreGood (stages.Edges s) = IsScenario s × (s.bad ≡ []) × (s.epochs ≡ false)
AreGood (stages.Bads s) = IsScenario s × (s.epochs ≡ false)
AreGood (stages.Epochs s) = IsScenario s × (s.epochs ≡ true)
AreGood (stages.Events s es) = IsSchedule s es
AreGood (stages.End s es) = IsSchedule s es

-- one good line more
pub record Goes (stage : Stage) (words : List Word) (next : Stage) : Type 0 where
  pub lines : AreGood stage → lines_to next ≡ lines_to stage ++ words ∷ []
  pub good : AreGood stage → AreGood next

-- ---- lines of the header

header_ok : {X : Type 0} (r : Result X Fault) (f : X → Stage) (next : Stage) → header r f ≡ Ok next → (x : X) × (r ≡ Ok x) × (f x ≡ next)
header_ok (Ok x) f next is = (x, refl, cc)
header_ok (Err fault) f next is = absurd cc

height_back : (n : ℕ) → is_height n ≡ true → height_number (height_at n) ≡ n
height_back n is =
    elim (cases_Bool (n == 5)) [
      | inl five ↦ (let at : n ≡ 5 = eqb-true n 5 five in rw at refl)
      | inr other ↦ (let ten : (n == 10) ≡ true = rw other at is in let at : n ≡ 10 = eqb-true n 10 ten in rw at refl)
    ]

-- the line of one name
pub name_line : (w : Word) (words : List Word) → fits (Name w ∷ []) words ≡ true → words ≡ w ∷ []
name_line w [] fit = absurd cc
name_line w (x ∷ []) fit = let both = and_parts (same x w) true fit in let is : x ≡ w = same_words x w both.0 in rw is refl
name_line w (x ∷ y ∷ words) fit =
    let both = and_parts (1 == length (x ∷ y ∷ words)) (same x w && true) fit in
    absurd (let long : 1 ≡ length (x ∷ y ∷ words) = eqb-true 1 (length (x ∷ y ∷ words)) both.0 in omega (arith, long))

pub if_cases : {A : Type 0} (t : Bool) (a b c : A) → (if t then a else b) ≡ c → ((t ≡ true) × (a ≡ c)) ⊎ ((t ≡ false) × (b ≡ c))
if_cases true a b c is = inl (refl, is)
if_cases false a b c is = inr (refl, is)

-- ---- edges

lower_means : (f e : Edge) → is_lower f e ≡ true → IsLower f e
lower_means f e is =
    elim (cases_Bool (nat_lt f.low.0 e.low.0)) [
      | inl less ↦ inl (grind (arith, nat_tests, less))
      | inr other ↦ (
          let rest : ((f.low.0 == e.low.0) && nat_lt f.high.0 e.high.0) ≡ true = rw other at is in
          let both = and_parts (f.low.0 == e.low.0) (nat_lt f.high.0 e.high.0) rest in
          inr (eqb-true f.low.0 e.low.0 both.0, grind (arith, nat_tests, both.1)))
    ]

above_means : (last : Option Edge) (e : Edge) → is_above last e ≡ true → IfSome last (λ f. IsLower f e)
above_means None e is = tt
above_means (Some f) e is = lower_means f e is

next_means : (format : ℕ) (g : Graph) (e : Edge) → AreIn (edge_cells g.nodes) (e.low.0, (e.high.0, (e.weight, tt))) → is_next_edge format g e ≡ true
    → IsNextEdge format g e
next_means format g e are is =
    let all = and_parts (nat_lt e.low.0 e.high.0 && is_above (last_edge g.edges) e) (nat_lt (length g.edges) (max_edges format)) is in
    let both = and_parts (nat_lt e.low.0 e.high.0) (is_above (last_edge g.edges) e) all.0 in
    let less : e.low.0 < e.high.0 = grind (arith, nat_tests, both.0) in
    record {
      ends = (are.0, less, are.2.1);
      weight = (are.2.2.0, are.2.2.1);
      ascends = above_means (last_edge g.edges) e both.1;
      few = grind (arith, nat_tests, all.1);
    }

-- ---- compromised nodes

ascend_push : (low nodes : ℕ) (bs : List NodeId) (b : NodeId) → Ascend low nodes bs → next_after low bs ≤ b.0 → b.0 ≤ nodes → Ascend low nodes (bs ++ b ∷ [])
ascend_push low nodes [] b good above below = (above, below, tt)
ascend_push low nodes (c ∷ bs) b good above below = (good.0, good.1, ascend_push (c.0 + 1) nodes bs b good.2 above below)

edge_lines : (s : Scenario) (e : Edge) → s.bad ≡ [] → scenario_lines (with_edge s e) ≡ scenario_lines s ++ edge_words e ∷ []
edge_lines s e none =
    let front = front_lines s.format s.seed s.height s.limits s.graph.nodes in
    let no_bad : map bad_words s.bad ≡ [] = ap (map bad_words) none in
    let one : map edge_words (s.graph.edges ++ e ∷ []) ≡ map edge_words s.graph.edges ++ edge_words e ∷ [] = map-append edge_words s.graph.edges (e ∷ []) in
    let left : map edge_words (s.graph.edges ++ e ∷ []) ++ map bad_words s.bad ≡ map edge_words s.graph.edges ++ edge_words e ∷ [] =
    ap (λ (xs : List (List Word)). map edge_words (s.graph.edges ++ e ∷ []) ++ xs) no_bad ∙ append-nil _ ∙ one in
    let right : map edge_words s.graph.edges ++ map bad_words s.bad ≡ map edge_words s.graph.edges =
    ap (λ (xs : List (List Word)). map edge_words s.graph.edges ++ xs) no_bad ∙ append-nil _ in
    ap (λ (xs : List (List Word)). front ++ xs) left ∙ sym (append_assoc front (map edge_words s.graph.edges) (edge_words e ∷ []))
    ∙ ap (λ (xs : List (List Word)). (front ++ xs) ++ edge_words e ∷ []) (sym right)

bad_lines : (s : Scenario) (id : NodeId) → scenario_lines (with_bad s id) ≡ scenario_lines s ++ bad_words id ∷ []
bad_lines s id =
    let front = front_lines s.format s.seed s.height s.limits s.graph.nodes in
    let edges = map edge_words s.graph.edges in
    let one : map bad_words (s.bad ++ id ∷ []) ≡ map bad_words s.bad ++ bad_words id ∷ [] = map-append bad_words s.bad (id ∷ []) in
    ap (λ (xs : List (List Word)). front ++ (edges ++ xs)) one
    ∙ ap (λ (xs : List (List Word)). front ++ xs) (sym (append_assoc edges (map bad_words s.bad) (bad_words id ∷ [])))
    ∙ sym (append_assoc front (edges ++ map bad_words s.bad) (bad_words id ∷ []))

-- ---- one line more

begins : (s : Scenario) (words : List Word) (next : Stage) (before : List (List Word)) → IsScenario s → scenario_lines s ++ epochs_lines s ≡ before
    → fits begin_cells words ≡ true
    → stages.Events s [] ≡ next → (lines_to next ≡ before ++ words ∷ []) × AreGood next
begins s words next before good so_far fit is =
    let line = name_line _ words fit in
    subst (λ (z : Stage). (lines_to z ≡ before ++ words ∷ []) × AreGood z) is (
      append-nil (header_lines s) ∙ sym (append_assoc (scenario_lines s) (epochs_lines s) (begin_words ∷ []))
          ∙ ap (λ (ls : List (List Word)). ls ++ begin_words ∷ []) so_far ∙ ap (λ (ws : List Word). before ++ ws ∷ []) (sym line),
      record { scenario = good; events = None_yet; count = omega arith },
    )

-- the lines before `begin`, without `epochs` and with it
no_epochs : (s : Scenario) → s.epochs ≡ false → scenario_lines s ++ epochs_lines s ≡ scenario_lines s
no_epochs s none =
    ap (λ (b : Bool). scenario_lines s ++ (if b then epochs_words ∷ [] else [])) none ∙ append-nil (scenario_lines s)

has_epochs : (s : Scenario) → s.epochs ≡ true → scenario_lines s ++ epochs_lines s ≡ scenario_lines s ++ epochs_words ∷ []
has_epochs s has = ap (λ (b : Bool). scenario_lines s ++ (if b then epochs_words ∷ [] else [])) has

epochs_more : (s : Scenario) (words : List Word) (next : Stage) → IsScenario s → fits epochs_cells words ≡ true → says_epochs s ≡ Ok next
    → (lines_to next ≡ scenario_lines s ++ words ∷ []) × AreGood next
epochs_more s words next good fit says_it =
    let line = name_line _ words fit in
    elim (if_cases (s.format == FORMAT_2) (Ok (stages.Epochs (with_epochs s))) (Err kinds.Header) (Ok next) says_it) [
      | inl is ↦ (
          let to : stages.Epochs (with_epochs s) ≡ next = (let said = is.1 in cc) in
          subst (λ (z : Stage). (lines_to z ≡ scenario_lines s ++ words ∷ []) × AreGood z) to (
            ap (λ (ws : List Word). scenario_lines s ++ ws ∷ []) (sym line),
            (
              record {
                format = good.format;
                seed = good.seed;
                limits = good.limits;
                graph = good.graph;
                bad = good.bad;
                epochs =
                    λ has. eqb-true s.format FORMAT_2 is.0;
              },
              refl,
            ),
          ))
      | inr other ↦ absurd (let out = other.1 in cc)
    ]

bad_more : (s : Scenario) (words : List Word) (next : Stage) → IsScenario s → s.epochs ≡ false → says_bad s words ≡ Ok next
    → (lines_to next ≡ scenario_lines s ++ words ∷ []) × AreGood next
bad_more s words next good none says_it =
    let step = header_ok (line_of (bad_cells (next_after 1 s.bad) s.graph.nodes) words) (λ x. stages.Bads (with_bad s (bad_node x.0))) next says_it in
    let read = line_read (bad_cells (next_after 1 s.bad) s.graph.nodes) words step.0 step.1 in
    subst (λ (z : Stage). (lines_to z ≡ scenario_lines s ++ words ∷ []) × AreGood z) step.2 (
      bad_lines s (bad_node step.0.0) ∙ ap (λ (ws : List Word). scenario_lines s ++ ws ∷ []) (sym read.1),
      (
        record {
          format = good.format;
          seed = good.seed;
          limits = good.limits;
          graph = good.graph;
          bad =
              ascend_push 1 s.graph.nodes s.bad (bad_node step.0.0) good.bad read.0.0 read.0.1;
          epochs = good.epochs;
        },
        none,
      ),
    )

edge_more : (s : Scenario) (words : List Word) (next : Stage) → IsScenario s → s.bad ≡ [] → s.epochs ≡ false → says_edge s words ≡ Ok next
    → (lines_to next ≡ scenario_lines s ++ words ∷ []) × AreGood next
edge_more s words next good none off says_it =
    let step = header_ok (next_edge s words) (λ e. stages.Edges (with_edge s e)) next says_it in
    let e = step.0 in
    let found = then_ok (line_of (edge_cells s.graph.nodes) words) (λ x. if_next s.format s.graph (edge_of s.graph.nodes x)) e step.1 in
    let read = line_read (edge_cells s.graph.nodes) words found.0 found.1 in
    let x = found.0 in
    let all : IsNextEdge s.format s.graph e × (words ≡ edge_words e) =
    elim (if_cases (is_next_edge s.format s.graph (edge_of s.graph.nodes x)) (Ok (edge_of s.graph.nodes x)) (Err faults.Range) (Ok e) found.2) [
      | inl is ↦ (
          let is_e : edge_of s.graph.nodes x ≡ e = cc in
          subst (λ (z : Edge). IsNextEdge s.format s.graph z × (words ≡ edge_words z)) is_e
          (next_means s.format s.graph (edge_of s.graph.nodes x) read.0 is.0, read.1))
      | inr other ↦ absurd (let out = other.1 in cc)
    ] in
    subst (λ (z : Stage). (lines_to z ≡ scenario_lines s ++ words ∷ []) × AreGood z) step.2 (
      edge_lines s e none ∙ ap (λ (ws : List Word). scenario_lines s ++ ws ∷ []) (sym all.1),
      (
        record {
          format = good.format;
          seed = good.seed;
          limits = good.limits;
          graph = graph_grows s.format s.graph e good.graph all.0;
          bad = good.bad;
          epochs =
              good.epochs;
        },
        none,
        off,
      ),
    )

event_said : (s : Scenario) (es : List Event) (words : List Word) (r : Result Event Fault) (next : Stage) → read_event s es words ≡ r → IsSchedule s es
    → length es < MAX_EVENTS
    → event_more s es r ≡ Ok next
    → (lines_to next ≡ lines_to (stages.Events s es) ++ words ∷ []) × AreGood next
event_said s es words (Err fault) next read good room is = absurd cc
event_said s es words (Ok e) next read good room is =
    let to : stages.Events s (es ++ e ∷ []) ≡ next = cc in
    let both = (events_have_one_line s es words e good.scenario.graph.nodes.1).0 read in
    let lines : header_lines s ++ map (event_words s) (es ++ e ∷ []) ≡ (header_lines s ++ map (event_words s) es) ++ words ∷ [] =
    ap (λ (xs : List (List Word)). header_lines s ++ xs) (map-append (event_words s) es (e ∷ []))
    ∙ sym (append_assoc (header_lines s) (map (event_words s) es) (event_words s e ∷ []))
    ∙ ap (λ (ws : List Word). (header_lines s ++ map (event_words s) es) ++ ws ∷ []) (sym both.1) in
    subst (λ (z : Stage). (lines_to z ≡ lines_to (stages.Events s es) ++ words ∷ []) × AreGood z) to
    (lines, record { scenario = good.scenario; events = One_more e good.events both.0; count = omega (arith, room, length-append es (e ∷ [])) })

ends : (s : Scenario) (es : List Event) (words : List Word) (next : Stage) → IsSchedule s es → fits end_cells words ≡ true → stages.End s es ≡ next
    → (lines_to next ≡ lines_to (stages.Events s es) ++ words ∷ []) × AreGood next
ends s es words next good fit is =
    let line = name_line _ words fit in
    subst (λ (z : Stage). (lines_to z ≡ lines_to (stages.Events s es) ++ words ∷ []) × AreGood z) is (
      sym (append_assoc (header_lines s) (map (event_words s) es) (end_words ∷ []))
          ∙ ap (λ (ws : List Word). (header_lines s ++ map (event_words s) es) ++ ws ∷ []) (sym line),
      good,
    )

-- a number that may stand in the first line is that of a format
one_of_two : (n : ℕ) → FORMAT_1 ≤ n → n ≤ FORMAT_2 → IsFormat n
one_of_two n low high =
    elim (cases_Bool (n == FORMAT_1)) [
      | inl one ↦ inl (eqb-true n FORMAT_1 one)
      | inr other ↦ inr (grind (arith, nat_tests, low, high, other))
    ]

pub says_more : (stage : Stage) (words : List Word) (next : Stage) → AreGood stage → says stage words ≡ Ok next
    → (lines_to next ≡ lines_to stage ++ words ∷ []) × AreGood next
says_more stages.Start words next good is =
    let step = header_ok (line_of version_cells words) (λ x. stages.Version x.0) next is in
    let read = line_read version_cells words step.0 step.1 in
    subst (λ (z : Stage). (lines_to z ≡ words ∷ []) × AreGood z) step.2 (ap (λ (ws : List Word). ws ∷ []) (sym read.1), one_of_two step.0.0 read.0.0 read.0.1)
says_more (stages.Version format) words next good is =
    let step = header_ok (line_of seed_cells words) (λ x. stages.Seed format x.0) next is in
    let read = line_read seed_cells words step.0 step.1 in
    subst (λ (z : Stage). (lines_to z ≡ version_words format ∷ words ∷ []) × AreGood z) step.2
    (ap (λ (ws : List Word). version_words format ∷ ws ∷ []) (sym read.1), (good, (omega (arith, read.0.0.0, read.0.0.1), read.0.0.2)))
says_more (stages.Seed format seed) words next good is =
    let step = header_ok (line_of height_cells words) (λ x. stages.Height format seed (height_at x.0)) next is in
    let read = line_read height_cells words step.0 step.1 in
    let same_number : height_number (height_at step.0.0) ≡ step.0.0 = height_back step.0.0 read.0.2 in
    let line : height_words (height_at step.0.0) ≡ words = ap (λ (n : ℕ). spelled height_cells (n, tt)) same_number ∙ sym read.1 in
    subst (λ (z : Stage). (lines_to z ≡ version_words format ∷ seed_words seed ∷ words ∷ []) × AreGood z) step.2
    (ap (λ (ws : List Word). version_words format ∷ seed_words seed ∷ ws ∷ []) line, good)
says_more (stages.Height format seed height) words next good is =
    let step = header_ok (line_of bounds_cells words) (λ x. stages.Bounds format seed height (limits_of x)) next is in
    let read = line_read bounds_cells words step.0 step.1 in
    subst (λ (z : Stage). (lines_to z ≡ version_words format ∷ seed_words seed ∷ height_words height ∷ words ∷ []) × AreGood z) step.2 (
      ap (λ (ws : List Word). version_words format ∷ seed_words seed ∷ height_words height ∷ ws ∷ []) (sym read.1),
      (good.0, good.1, record { buffer = (read.0.0, read.0.1); store = (read.0.2.0, read.0.2.1) }),
    )
says_more (stages.Bounds format seed height limits) words next good is =
    let step = header_ok (line_of (nodes_cells format) words) (λ x. stages.Edges (bare format seed height limits x.0)) next is in
    let read = line_read (nodes_cells format) words step.0 step.1 in
    subst (λ (z : Stage). (lines_to z ≡ version_words format ∷ seed_words seed ∷ height_words height ∷ bounds_words limits ∷ words ∷ []) × AreGood z) step.2 (
      ap (λ (ws : List Word). version_words format ∷ seed_words seed ∷ height_words height ∷ bounds_words limits ∷ ws ∷ []) (sym read.1),
      (
        record {
          format = good.0;
          seed = good.1;
          limits = good.2;
          graph = record {
            nodes = (read.0.0, read.0.1);
            few = omega arith;
            edges = λ k d inside. absurd (omega (arith, inside));
            ascend =
                λ i j d less inside. absurd (omega (arith, inside));
          };
          bad = tt;
          epochs = λ has. absurd cc;
        },
        refl,
        refl,
      ),
    )
says_more (stages.Edges s) words next good is =
    elim (if_cases (fits begin_cells words) (Ok (stages.Events s []))
    (if fits epochs_cells words then says_epochs s else (if fits (bad_cells 0 0) words then says_bad s words else says_edge s words)) (Ok next) is) [
      | inl begin ↦ begins s words next (scenario_lines s) good.0 (no_epochs s good.2) begin.0 (let to = begin.1 in cc)
      | inr other ↦
          elim (if_cases (fits epochs_cells words) (says_epochs s) (if fits (bad_cells 0 0) words then says_bad s words else says_edge s words) (Ok next)
          other.1) [
            | inl epochs ↦ epochs_more s words next good.0 epochs.0 epochs.1
            | inr another ↦
                elim (if_cases (fits (bad_cells 0 0) words) (says_bad s words) (says_edge s words) (Ok next) another.1) [
                  | inl bad ↦ bad_more s words next good.0 good.2 bad.1
                  | inr edge ↦ edge_more s words next good.0 good.1 good.2 edge.1
                ]
          ]
    ]
says_more (stages.Bads s) words next good is =
    elim (if_cases (fits begin_cells words) (Ok (stages.Events s [])) (if fits epochs_cells words then says_epochs s else says_bad s words) (Ok next) is) [
      | inl begin ↦ begins s words next (scenario_lines s) good.0 (no_epochs s good.1) begin.0 (let to = begin.1 in cc)
      | inr other ↦
          elim (if_cases (fits epochs_cells words) (says_epochs s) (says_bad s words) (Ok next) other.1) [
            | inl epochs ↦ epochs_more s words next good.0 epochs.0 epochs.1
            | inr bad ↦ bad_more s words next good.0 good.1 bad.1
          ]
    ]
says_more (stages.Epochs s) words next good is =
    elim (if_cases (fits begin_cells words) (Ok (stages.Events s [])) (Err kinds.Header) (Ok next) is) [
      | inl begin ↦ begins s words next (scenario_lines s ++ epochs_words ∷ []) good.0 (has_epochs s good.1) begin.0 (let to = begin.1 in cc)
      | inr other ↦ absurd (let out = other.1 in cc)
    ]
says_more (stages.Events s es) words next good is =
    elim (if_cases (fits end_cells words) (Ok (stages.End s es))
    (if nat_le MAX_EVENTS (length es) then Err kinds.TooMany else event_more s es (read_event s es words)) (Ok next) is) [
      | inl end ↦ ends s es words next good end.0 (let to = end.1 in cc)
      | inr other ↦
          elim (if_cases (nat_le MAX_EVENTS (length es)) (Err kinds.TooMany) (event_more s es (read_event s es words)) (Ok next) other.1) [
            | inl many ↦ absurd (let out = many.1 in cc)
            | inr event ↦ event_said s es words (read_event s es words) next refl good (grind (arith, nat_tests, event.0)) event.1
          ]
    ]
says_more (stages.End s es) words next good is = absurd cc

-- all lines that were read
pub all_lines : (lines : List (List Word)) (stage last : Stage) → AreGood stage → follow_all says stage lines ≡ Ok last
    → (lines_to last ≡ lines_to stage ++ lines) × AreGood last
all_lines [] stage last good is =
    let same_stage : stage ≡ last = cc in
    subst (λ (z : Stage). (lines_to z ≡ lines_to stage ++ []) × AreGood z) same_stage (sym (append-nil (lines_to stage)), good)
all_lines (words ∷ lines) stage last good is =
    let step = then_ok (says stage words) (λ next. follow_all says next lines) last is in
    let one = says_more stage words step.0 good step.1 in
    let more = all_lines lines step.0 last one.1 step.2 in
    (more.0 ∙ ap (λ (xs : List (List Word)). xs ++ lines) one.0 ∙ append_assoc (lines_to stage) (words ∷ []) lines, more.1)

pub is_good_stage : (stage : Stage) → AreGood stage → IsGoodStage stage
is_good_stage stages.Start good = tt
is_good_stage (stages.Version format) good = tt
is_good_stage (stages.Seed format seed) good = tt
is_good_stage (stages.Height format seed height) good = tt
is_good_stage (stages.Bounds format seed height limits) good = tt
is_good_stage (stages.Edges s) good = tt
is_good_stage (stages.Bads s) good = tt
is_good_stage (stages.Epochs s) good = tt
is_good_stage (stages.Events s es) good = good
is_good_stage (stages.End s es) good = good
