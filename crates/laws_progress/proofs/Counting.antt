-- The active flows at a node are at most as many as the run may have.
use Rattle.std.proofs.Common.{◌≡◌, ◌≤◌, ℕ, zero, suc, ◌+◌, ◌&&◌, Bool, true, false, not, List, [], ◌∷◌, ◌++◌, eqb, length, map, filter, Option, Some, None}
use Rattle.std.proofs.Common.{refl, sym, ap, subst, ◌∙◌, inl, inr, arith, append-nil}
use Rattle.std.specs.Prelude.{slice_get}
use Rattle.std.specs.List.{flat_map, list_any}
use Rattle.std.proofs.lemmas.Bool.{cases_Bool, eqb-false}
use Rattle.std.proofs.lemmas.List.Folds.{list_any-append}
use Rattle.std.proofs.lemmas.List.Sums.{length-filter}
use Rattle.sp_base.specs.declared.id.Flow.{Flow}
use Rattle.sp_base.specs.declared.id.NodeId.{NodeId}
use Rattle.sp_rules.specs.Arts.{Arts}
use Rattle.sp_rules.specs.Flow.{FlowState, ends}
use Rattle.sp_rules.specs.Node.{NodeState}
use Rattle.sp_rules.specs.Parts.{nodes_of}
use Rattle.sp_rules.specs.Rel.{flows_from, pairs_of}
use Rattle.laws_node.specs.Flows.{FlowHolds}
use Rattle.laws_node.proofs.Reliable.{found}
use Rattle.laws_node.proofs.Tables.{all_get}
use Rattle.sp_runs.specs.Runs.{Clean, Turned, Starts}
use Rattle.sp_runs.specs.Settings.{Setting, SettingFits}
use Rattle.sp_runs.specs.Told.{accepted_in, Message}
use Rattle.sp_runs.specs.Worlds.{World, node_in}
use Rattle.sp_journal.specs.declared.entry.Entry.{Entry}
use Rattle.sp_journal.specs.declared.entry.Reply.{Reply}
use Rattle.sp_journal.specs.declared.entry.Reply.TheVariants as replies
use Rattle.sp_schedule_events.specs.declared.event.Event.{Event}
use Rattle.sp_schedule_events.specs.declared.event.Event.TheVariants as events
use Rattle.laws_runs.specs.Premises.{Carries}
use Rattle.laws_runs.specs.Signs.{Good, sizes_at}
use Rattle.laws_runs.specs.Past.{Happened, holds, mover_in, past, sent_under, told_under}
use Rattle.laws_runs.proofs.FlowRuns.{flows_are_kept_over_lives}
use Rattle.laws_runs.proofs.PastFacts.{past_more}
use Rattle.sp_rules.specs.Lives.{held_boot}
use Rattle.sp_rules.specs.declared.kflow.FlowKind.TheVariants.{Plain}
use Rattle.std.specs.Prelude.{◌||◌}
use Rattle.laws_progress.proofs.Standing.{get_map, on_at, rel_of, there_on}
use Rattle.laws_runs.proofs.Lists.{both}
use Rattle.laws_runs.proofs.Signed.{signs}
use Rattle.sp_runs.specs.Rounds.{flow_count, has_correct_ends, is_send}
use Rattle.laws_progress.proofs.States.{Era, State, Watched, actives_of, in_era, seen_at, sight}
use Rattle.laws_progress.proofs.Service.{number_on, IsWithin, is_on}
use Rattle.sp_rules.specs.Parts.{flows_of}
use Rattle.sp_rules.specs.declared.kflow.FlowKind.{FlowKind}
use Rattle.sp_rules.specs.declared.kflow.FlowKind.TheVariants.{Paths}
use Rattle.laws_node.proofs.FlowKinds.{flows_hold}

-- ---- what was sent was asked for

or_true : (a : Bool) → (a || true) ≡ true
or_true true = refl
or_true false = refl

silent : (kind : FlowKind) (flow : Flow) (e : Event) (r : Reply) → is_send kind flow e ≡ false → accepted_in kind flow.src flow.dst e r ≡ []
silent Plain flow (events.Rel from to payload) (replies.Accepted q) off = rw off refl
silent Plain flow (events.Rel from to payload) replies.BadEnd off = refl
silent Plain flow (events.Rel from to payload) (replies.Full q p) off = refl
silent Plain flow (events.Rel from to payload) (replies.Spent q) off = refl
silent Plain flow (events.Rel from to payload) (replies.Expired q) off = refl
silent Plain flow (events.Rel from to payload) (replies.NoPaths q) off = refl
silent Plain flow (events.Rel from to payload) (replies.Busy q) off = refl
silent Plain flow (events.Rel from to payload) (replies.Payload q) off = refl
silent Plain flow (events.Rel from to payload) (replies.PayloadPrio q p t) off = refl
silent Plain flow (events.Rel from to payload) replies.Empty off = refl
silent Plain flow (events.Rel from to payload) replies.Ticked off = refl
silent Plain flow (events.Rel from to payload) (replies.TickSpent q) off = refl
silent Plain flow (events.Rel from to payload) (replies.TickNotReserved q) off = refl
silent Plain flow (events.Rel from to payload) (replies.Low q) off = refl
silent Plain flow (events.Rel from to payload) (replies.Frame q p t) off = refl
silent Plain flow (events.Rel from to payload) (replies.Arrived q p) off = refl
silent Plain flow (events.Rel from to payload) (replies.Started q p) off = refl
silent Plain flow (events.Rel from to payload) (replies.Exhausted q) off = refl
silent Plain flow (events.Rel from to payload) replies.Stopped off = refl
silent Plain flow (events.Rel from to payload) replies.Down off = refl
silent Plain flow (events.Rel from to payload) (replies.Adopted q) off = refl
silent Plain flow (events.Rel from to payload) replies.DocumentOld off = refl
silent Plain flow (events.Prio a b c f g h) r off = refl
silent Plain flow (events.Take a b) r off = refl
silent Plain flow (events.Krel from to paths payload) r off = refl
silent Plain flow (events.KTake a b) r off = refl
silent Plain flow (events.TakePrio a) r off = refl
silent Plain flow (events.Tick a b) r off = refl
silent Plain flow (events.Weight a b c) r off = refl
silent Plain flow (events.Poll a b) r off = refl
silent Plain flow (events.Pass a b c) r off = refl
silent Plain flow (events.Flip a b c f g) r off = refl
silent Plain flow (events.Inject a b c) r off = refl
silent Plain flow (events.Craft a b c f) r off = refl
silent Plain flow (events.CraftStatus a b c f g h) r off = refl
silent Plain flow (events.Publish a b) r off = refl
silent Plain flow (events.CraftDocument a b c f g) r off = refl
silent Plain flow (events.Start a) r off = refl
silent Plain flow (events.Stop a) r off = refl
silent Paths flow (events.Rel from to payload) r off = refl
silent Paths flow (events.Prio a b c f g h) r off = refl
silent Paths flow (events.Take a b) r off = refl
silent Paths flow (events.Krel from to paths payload) (replies.Accepted q) off = rw off refl
silent Paths flow (events.Krel from to paths payload) replies.BadEnd off = refl
silent Paths flow (events.Krel from to paths payload) (replies.Full q p) off = refl
silent Paths flow (events.Krel from to paths payload) (replies.Spent q) off = refl
silent Paths flow (events.Krel from to paths payload) (replies.Expired q) off = refl
silent Paths flow (events.Krel from to paths payload) (replies.NoPaths q) off = refl
silent Paths flow (events.Krel from to paths payload) (replies.Busy q) off = refl
silent Paths flow (events.Krel from to paths payload) (replies.Payload q) off = refl
silent Paths flow (events.Krel from to paths payload) (replies.PayloadPrio q p t) off = refl
silent Paths flow (events.Krel from to paths payload) replies.Empty off = refl
silent Paths flow (events.Krel from to paths payload) replies.Ticked off = refl
silent Paths flow (events.Krel from to paths payload) (replies.TickSpent q) off = refl
silent Paths flow (events.Krel from to paths payload) (replies.TickNotReserved q) off = refl
silent Paths flow (events.Krel from to paths payload) (replies.Low q) off = refl
silent Paths flow (events.Krel from to paths payload) (replies.Frame q p t) off = refl
silent Paths flow (events.Krel from to paths payload) (replies.Arrived q p) off = refl
silent Paths flow (events.Krel from to paths payload) (replies.Started q p) off = refl
silent Paths flow (events.Krel from to paths payload) (replies.Exhausted q) off = refl
silent Paths flow (events.Krel from to paths payload) replies.Stopped off = refl
silent Paths flow (events.Krel from to paths payload) replies.Down off = refl
silent Paths flow (events.Krel from to paths payload) (replies.Adopted q) off = refl
silent Paths flow (events.Krel from to paths payload) replies.DocumentOld off = refl
silent Paths flow (events.KTake a b) r off = refl
silent Paths flow (events.TakePrio a) r off = refl
silent Paths flow (events.Tick a b) r off = refl
silent Paths flow (events.Weight a b c) r off = refl
silent Paths flow (events.Poll a b) r off = refl
silent Paths flow (events.Pass a b c) r off = refl
silent Paths flow (events.Flip a b c f g) r off = refl
silent Paths flow (events.Inject a b c) r off = refl
silent Paths flow (events.Craft a b c f) r off = refl
silent Paths flow (events.CraftStatus a b c f g h) r off = refl
silent Paths flow (events.Publish a b) r off = refl
silent Paths flow (events.CraftDocument a b c f g) r off = refl
silent Paths flow (events.Start a) r off = refl
silent Paths flow (events.Stop a) r off = refl

none_told : (s d : NodeId) (a b : ℕ) (mover : Option NodeState) (ms : List Message) → ms ≡ [] → told_under s a d b ms mover ≡ []
none_told s d a b None ms none = refl
none_told s d a b (Some n) ms none =
    ap (λ (zs : List Message). told_under s a d b zs (Some n)) none ∙ elim (cases_Bool (holds n s a d b)) [ inl t ↦ rw t refl | inr t ↦ rw t refl ]

-- under whatever boots
asked_under : (kind : FlowKind) (arts : Arts) (x : Setting) (es : List Event) (js : List Entry) (w : World) (run : Clean arts x es js w) (flow : Flow) (a b : ℕ)
    → 1 ≤ length (sent_under kind (past arts x es js w run) flow.src a flow.dst b) → list_any (is_send kind flow) es ≡ true
asked_under kind arts x es js w Starts flow a b some = absurd (omega (arith, some))
asked_under kind arts x es js w (Turned {es = es'} {js = js'} {old = old} {e = e} {j = j} run range turn unforged) flow a b some =
    list_any-append (is_send kind flow) es' (e ∷ []) ∙ elim (cases_Bool (is_send kind flow e)) [
      | inl t ↦ rw t (or_true (list_any (is_send kind flow) es'))
      | inr t ↦
          let before = past arts x es' js' old run in
          let h : Happened = record { event = e; entry = j; mover = mover_in arts x old e j w turn } in
          let none : told_under flow.src a flow.dst b (accepted_in kind flow.src flow.dst e j.reply) (mover_in arts x old e j w turn) ≡ [] =
          none_told flow.src flow.dst a b (mover_in arts x old e j w turn) (accepted_in kind flow.src flow.dst e j.reply) (silent kind flow e j.reply t) in
          let more : sent_under kind (before ++ h ∷ []) flow.src a flow.dst b ≡ sent_under kind before flow.src a flow.dst b =
          past_more (λ q. told_under flow.src a flow.dst b (accepted_in kind flow.src flow.dst q.event q.entry.reply) q.mover) before h
          ∙ ap (λ ms. sent_under kind before flow.src a flow.dst b ++ ms) none ∙ append-nil _ in
          rw (asked_under kind arts x es' js' old run flow a b (subst (λ (ms : List Message). 1 ≤ length ms) more some)) refl
    ]

-- ---- no flow has two equal ends

abbrev AreApart : List Flow → Type 0
AreApart [] = Unit {0}
AreApart (f ∷ fs) = (f.src ≡ f.dst → ⊥) × AreApart fs

apart_both : (xs ys : List Flow) → AreApart xs → AreApart ys → AreApart (xs ++ ys)
apart_both [] ys one two = two
apart_both (x ∷ xs) ys one two = (one.0, apart_both xs ys one.1 two)

apart_from : (src : NodeId) (dsts : List NodeId) → AreApart (flows_from src dsts)
apart_from src [] = tt
apart_from src (v ∷ dsts) = elim (cases_Bool (eqb v.0 src.0)) [
  | inl t ↦ rw t (apart_from src dsts)
  | inr t ↦ rw t ((λ same. eqb-false _ _ t (sym (ap (λ (u : NodeId). u.0) same))), apart_from src dsts)
]

apart_all : (srcs nodes : List NodeId) → AreApart (flat_map (λ s. flows_from s nodes) srcs)
apart_all [] nodes = tt
apart_all (s ∷ srcs) nodes = apart_both (flows_from s nodes) (flat_map (λ s. flows_from s nodes) srcs) (apart_from s nodes) (apart_all srcs nodes)

apart_at : (fs : List FlowState) (i : ℕ) (f : FlowState) → AreApart (map ends fs) → slice_get fs i ≡ Some f → f.src ≡ f.dst → ⊥
apart_at [] i f apart at = absurd cc
apart_at (g ∷ fs) zero f apart at = let same : g ≡ f = cc in subst (λ (h : FlowState). h.src ≡ h.dst → ⊥) same apart.0
apart_at (g ∷ fs) (suc i) f apart at = apart_at fs i f apart.1 at

-- ---- the bound

-- a client sent to each active flow between correct nodes
pub asked_at : (kind : FlowKind) (arts : Arts) (x : Setting) (es : List Event) (js : List Entry) (w : World) → SettingFits arts x
    → Carries x.topology.format arts
    → Clean arts x es js w → (u : NodeId) (n : NodeState)
    → node_in w.nodes u ≡ Some n → (i : ℕ) (f : FlowState) → slice_get (flows_of kind n.parts).flows i ≡ Some f → f.active ≡ true
    → has_correct_ends x (ends f) ≡ true
    → list_any (is_send kind (ends f)) es ≡ true
asked_at kind arts x es js w fits reads run u n at i f there on correct =
    let is = (signs arts x es js w fits reads run).nodes u n at in
    let rel = flows_hold kind (sizes_at x (Good arts x es js) u) n.parts is.holds.parts in
    let flows = (flows_of kind n.parts).flows in
    let apart = subst AreApart (sym rel.keys) (apart_all (nodes_of x.topology) (nodes_of x.topology)) in
    let c = both _ _ correct in
    let claims = flows_are_kept_over_lives kind arts x es js w fits reads run f.src f.dst (both _ _ c.0).0 c.1 (apart_at flows i f apart there) in
    let busy = (all_get (FlowHolds kind (sizes_at x (Good arts x es js) u) n.signer.index) flows i f rel.flows there).busy on in
    let have = claims.have c.0 u n at in
    let same = ap (λ (g : FlowState). g.at.have) (found flows i f rel.once there) in
    asked_under kind arts x es js w run (ends f) (held_boot n.parts.lives f.src) (held_boot n.parts.lives f.dst) (omega (arith, busy, have, same))

-- a flow that may wait for its turn, by all events of the run
abbrev pub may_wait : FlowKind → Setting → List Event → Flow → Bool
may_wait kind x all flow = (has_correct_ends x flow && list_any (is_send kind flow) all) || not (has_correct_ends x flow)

-- each that is active may
pub waits_at : (kind : FlowKind) (arts : Arts) (x : Setting) (all : List Event) → SettingFits arts x → Carries x.topology.format arts
    → (w : State arts x all) (u : NodeId) (n : NodeState)
    → node_in w.world.nodes u ≡ Some n → (i : ℕ) (f : FlowState) → slice_get (flows_of kind n.parts).flows i ≡ Some f → f.active ≡ true
    → may_wait kind x all (ends f) ≡ true
waits_at kind arts x all fits reads w u n at i f there on = elim (cases_Bool (has_correct_ends x (ends f))) [
  | inl t ↦
      let asked = asked_at kind arts x w.events w.journal w.world fits reads w.run u n at i f there on t in
      let asked_all : list_any (is_send kind (ends f)) all ≡ true =
      ap (λ es. list_any (is_send kind (ends f)) es) w.whole ∙ list_any-append (is_send kind (ends f)) w.events w.rest ∙ rw asked refl in
      rw (t, asked_all) refl
  | inr t ↦ rw t refl
]

-- the places of all flows that may wait
abbrev pub waiting : FlowKind → Setting → List Event → List Bool
waiting kind x all = map (may_wait kind x all) (pairs_of (nodes_of x.topology))

pub rows_within : (kind : FlowKind) (arts : Arts) (x : Setting) (all : List Event) → SettingFits arts x → Carries x.topology.format arts
    → (w : State arts x all) (u : NodeId) (n : NodeState)
    → node_in w.world.nodes u ≡ Some n → IsWithin (map (λ f. f.active) (flows_of kind n.parts).flows) (waiting kind x all)
rows_within kind arts x all fits reads w u n at place on =
    let rel = rel_of kind arts x w.events w.journal w.world fits reads w.run u n at in
    let f = there_on (flows_of kind n.parts).flows place on in
    let key : slice_get (pairs_of (nodes_of x.topology)) place ≡ Some (ends f.0) =
    ap (λ ks. slice_get ks place) (sym rel.keys) ∙ get_map (flows_of kind n.parts).flows place f.0 f.1 in
    on_at (may_wait kind x all) (pairs_of (nodes_of x.topology)) place (ends f.0) key ∙ waits_at kind arts x all fits reads w u n at place f.0 f.1 f.2

count_two : (p q : Flow → Bool) (fs : List Flow) → number_on (map (λ f. p f || q f) fs) ≤ length (filter p fs) + length (filter q fs)
count_two p q [] = omega arith
count_two p q (f ∷ fs) =
    let rest = count_two p q fs in
    elim (cases_Bool (p f)) [
      | inl t ↦ elim (cases_Bool (q f)) [ inl z ↦ rw (t, z) (omega (arith, rest)) | inr z ↦ rw (t, z) (omega (arith, rest)) ]
      | inr t ↦ elim (cases_Bool (q f)) [ inl z ↦ rw (t, z) (omega (arith, rest)) | inr z ↦ rw (t, z) (omega (arith, rest)) ]
    ]

-- they are as many as are counted
pub few_wait : (kind : FlowKind) (x : Setting) (all : List Event) → number_on (waiting kind x all) ≤ flow_count kind x all
few_wait kind x all =
    let p : Flow → Bool = λ flow. has_correct_ends x flow && list_any (is_send kind flow) all in
    let q : Flow → Bool = λ flow. not (has_correct_ends x flow) in
    let bound = count_two p q (pairs_of (nodes_of x.topology)) in
    omega (arith, bound, length-filter p (pairs_of (nodes_of x.topology)), length-filter q (pairs_of (nodes_of x.topology)))

pub within : (arts : Arts) (x : Setting) (all : List Event) (era : Era) (flow : Flow) → SettingFits arts x → Carries x.topology.format arts
    → (w : Watched arts x all era) (u : NodeId) → IsWithin ((sight arts x all era flow).actives w u) (waiting era.kind x all)
within arts x all era flow fits reads w u = go (node_in w.at.world.nodes u) refl
  where
    go : (o : Option NodeState) → node_in w.at.world.nodes u ≡ o → IsWithin (seen_at [] (actives_of era flow u) o) (waiting era.kind x all)
    go None e place on = absurd (let f : false ≡ true = on in cc)
    go (Some n) e place on = elim (cases_Bool (in_era era flow u n)) [
      | inl t ↦ rows_within era.kind arts x all fits reads w.at u n e place (rw t at on)
      | inr t ↦ absurd (let f : is_on [] place ≡ true = rw t at on in let g : false ≡ true = f in cc)
    ]

-- so at each node no more are active. A place that is on in the first list is on in the second
number_within : (xs ys : List Bool) → IsWithin xs ys → number_on xs ≤ number_on ys
number_within [] ys in_them = omega arith
number_within (a ∷ xs) [] in_them =
    let rest = number_within xs [] (λ p on. absurd (let f : false ≡ true = in_them (suc p) on in cc)) in
    elim (cases_Bool a) [
      | inl t ↦ absurd (let f : false ≡ true = in_them 0 t in cc)
      | inr t ↦ rw t (omega (arith, rest))
    ]
number_within (a ∷ xs) (b ∷ ys) in_them =
    let rest = number_within xs ys (λ p on. in_them (suc p) on) in
    elim (cases_Bool a) [
      | inl t ↦ let on : b ≡ true = in_them 0 t in rw (t, on) (omega (arith, rest))
      | inr t ↦ rw t (omega (arith, rest))
    ]

pub few_at : (kind : FlowKind) (arts : Arts) (x : Setting) (all : List Event) → SettingFits arts x → Carries x.topology.format arts
    → (w : State arts x all) (u : NodeId) (n : NodeState) → node_in w.world.nodes u ≡ Some n
    → number_on (map (λ f. f.active) (flows_of kind n.parts).flows) ≤ flow_count kind x all
few_at kind arts x all fits reads w u n at =
    let less = number_within _ (waiting kind x all) (rows_within kind arts x all fits reads w u n at) in
    let few = few_wait kind x all in
    omega (arith, less, few)
