-- What a link of a correct node is in each state of a clean run: it is that node's, at the boot of its life. And how many of its frames it counts.
use Rattle.std.proofs.Common.{◌≡◌, ◌⊎◌, ℕ, ◌+◌, ◌==◌, ◌||◌, true, false, cond, List, [], ◌∷◌, ◌++◌, map, zip, Bool, Some, Result, Ok, Err, refl, sym, ap, subst}
use Rattle.std.proofs.Common.{◌∙◌, inl, inr, arith}
use Rattle.std.specs.List.{list_any}
use Rattle.std.proofs.lemmas.Bool.{cases_Bool}
use Rattle.sp_base.specs.Rows.{first_where}
use Rattle.sp_base.specs.declared.id.EdgeId.{EdgeId}
use Rattle.sp_base.specs.declared.id.NodeId.{NodeId}
use Rattle.sp_frame.specs.declared.head.Head.{Head}
use Rattle.sp_frame.specs.declared.refused.FrameRefused.{FrameRefused}
use Rattle.sp_rules.specs.Arts.{Arts, is_right}
use Rattle.sp_rules.proofs.ArrivalLemmas.{link_stays, link_with}
use Rattle.sp_rules.specs.Arrivals.{link_after}
use Rattle.sp_rules.specs.Link.{Link, after_answer, link_answer, new_link}
use Rattle.sp_rules.specs.Node.{NodeState, booted, is_link, link_in, link_of}
use Rattle.sp_rules.specs.Parts.{Fixed, neighbours_of}
use Rattle.sp_rules.specs.Steps.{Input, Poll, Datagram}
use Rattle.sp_rules.specs.declared.link.LinkAnswer.{LinkAnswer}
use Rattle.sp_rules.specs.declared.link.LinkAnswer.TheVariants as links
use Rattle.laws_node.specs.Shapes.{LinkShape, Shape, link_shape, shape_of}
use Rattle.laws_node.proofs.Shapes.{shapes_begin}
use Rattle.laws_runs.specs.Premises.{Carries}
use Rattle.sp_runs.specs.Inputs.{acting, input_of}
use Rattle.sp_runs.specs.Runs.{Clean, is_hop, is_poll, polls}
use Rattle.sp_runs.specs.Settings.{Setting, SettingFits, fixed_at, link_keys, signer_from}
use Rattle.sp_runs.specs.Worlds.{World, node_in}
use Rattle.sp_journal.specs.declared.entry.Entry.{Entry}
use Rattle.sp_schedule_events.specs.declared.event.Event.{Event}
use Rattle.sp_schedule_events.specs.declared.event.Event.TheVariants as events
use Rattle.laws_progress.proofs.Becomes.{MovesNobody}
use Rattle.laws_progress.proofs.Lasts.{NoPoll, no_poll}
use Rattle.laws_progress.proofs.LinkKeys.{first_shape}
use Rattle.laws_progress.proofs.Links.{LinkAfter, Rests, Sends, Hears}
use Rattle.laws_progress.proofs.Polls.{counted, poll_is}
use Rattle.laws_progress.proofs.Rows.{link_there, rows_are, shape_is}

pub record LinkAt (u : NodeId) (boot : ℕ) (l : Link) : Type 0 where
  pub me : l.me ≡ u
  pub boot_is : l.boot ≡ boot

boot_link : (u : NodeId) (f : Fixed) (none : Link) (v : NodeId) (zs : List ((NodeId × EdgeId) × List ℕ)) → f.me ≡ u
    → list_any (is_link v) (map (link_of f) zs) ≡ true
    → LinkAt u f.boot (first_where (is_link v) none (map (link_of f) zs))
boot_link u f none v [] me there = absurd (let e : false ≡ true = there in cc)
boot_link u f none v (z ∷ zs) me there = elim (cases_Bool (is_link v (link_of f z))) [
  | inl t ↦ rw t (record { me = me; boot_is = refl })
  | inr t ↦ rw t (boot_link u f none v zs me (rw t at there))
]

same_there : (v : NodeId) (ls ks : List Link) → map link_shape ls ≡ map link_shape ks → list_any (is_link v) ls ≡ true → list_any (is_link v) ks ≡ true
same_there v ls ks same there = sym (any_shape v ks) ∙ ap (list_any (λ (s : LinkShape). s.peer.0 == v.0)) (sym same) ∙ any_shape v ls ∙ there
  where
    any_shape : (v : NodeId) (ls : List Link) → list_any (λ (s : LinkShape). s.peer.0 == v.0) (map link_shape ls) ≡ list_any (is_link v) ls
    any_shape v [] = refl
    any_shape v (l ∷ ls) = ap (λ t. (l.peer.0 == v.0) || t) (any_shape v ls)

pub links_at : (arts : Arts) (x : Setting) (es : List Event) (js : List Entry) (w : World) → SettingFits arts x → Carries x.topology.format arts
    → Clean arts x es js w
    → (u v : NodeId) → is_hop x u v ≡ true → (n : NodeState) → node_in w.nodes u ≡ Some n → LinkAt u n.fixed.boot (link_in n v)
links_at arts x es js w fits reads run u v hop n at =
    let f = fixed_at x u n.fixed.boot in
    let signer = signer_from x u 0 n.signer.bound in
    let boot = booted f signer (link_keys x u) x.buffer x.store in
    let shape : shape_of n ≡ shape_of boot = shape_is arts x es js w fits reads run u n at ∙ sym (shapes_begin f signer (link_keys x u) x.buffer x.store) in
    let there = link_there x u v n (rows_are arts x es js w fits reads run u n at) hop in
    let links = ap (λ (s : Shape). s.links) shape in
    let first = first_shape v (new_link n.fixed.me v 0 []) (new_link u v 0 []) n.links boot.links links there in
    let new = boot_link u f (new_link u v 0 []) v (zip (neighbours_of f) (link_keys x u)) refl (same_there v n.links boot.links links there) in
    record { me = ap (λ (s : LinkShape). s.me) first ∙ new.me; boot_is = ap (λ (s : LinkShape). s.boot) first ∙ new.boot_is }

-- a datagram leaves how many frames were sent
answer_sent : (l : Link) (h : Head) (a : LinkAnswer) → (after_answer l h a).sent ≡ l.sent
answer_sent l h links.NotForMe = refl
answer_sent l h links.BadTag = refl
answer_sent l h (links.Learned boot) = refl
answer_sent l h (links.Stale boot counter) = refl
answer_sent l h links.Fresh = refl

after_sent : (arts : Arts) (n : NodeState) (v : NodeId) (bytes : List ℕ) → (link_after arts n v bytes).sent ≡ (link_in n v).sent
after_sent arts n v bytes = go (arts.opened bytes)
  where
    go : (o : Result (List ℕ) FrameRefused) → (link_with arts (link_in n v) bytes o).sent ≡ (link_in n v).sent
    go (Err refused) = ap (λ (l : Link). l.sent) (link_stays arts (link_in n v) bytes refused)
    go (Ok frame) = answer_sent (link_in n v) (arts.head bytes) (link_answer (link_in n v) (arts.head bytes) (is_right arts (link_in n v).key bytes))

-- the count of polls after one event more
pub no_more : (es : List Event) (e : Event) (u v : NodeId) → is_poll u v e ≡ false → polls (es ++ e ∷ []) u v ≡ polls es u v
no_more es e u v off = let more = counted u v es e ∙ ap (λ (t : Bool). polls es u v + cond t 1 0) off in omega (arith, more)

pub one_more : (es : List Event) (e : Event) (u v : NodeId) → is_poll u v e ≡ true → polls (es ++ e ∷ []) u v ≡ polls es u v + 1
one_more es e u v on = counted u v es e ∙ ap (λ (t : Bool). polls es u v + cond t 1 0) on

-- what a poll of v gives the node
pub poll_input : (arts : Arts) (x : Setting) (w : World) (n : NodeState) (e : Event) (i : Input) (u v : NodeId) → is_poll u v e ≡ true
    → input_of arts x w n e ≡ Some i → i ≡ Poll v
poll_input arts x w n e i u v on reaches = let is : Some (Poll v) ≡ Some i = sym (ap (input_of arts x w n) (poll_is u v e on)) ∙ reaches in cc

-- ---- what an event does to how many a node sent in its life, against the places of the direction

-- a step counts a frame exactly where it is polled
pub step_sent : (arts : Arts) (x : Setting) (es : List Event) (w : World) (n m : NodeState) (e : Event) (i : Input) (u v : NodeId) → acting e ≡ u
    → input_of arts x w n e ≡ Some i
    → LinkAfter arts n i m v → (link_in m v).sent + polls es u v ≡ (link_in n v).sent + polls (es ++ e ∷ []) u v
step_sent arts x es w n m e i u v acts reaches (Rests quiet same) = elim (cases_Bool (is_poll u v e)) [
  | inl on ↦ absurd ((subst (NoPoll v) (poll_input arts x w n e i u v on reaches) quiet) refl)
  | inr off ↦ let sent = ap (λ (l : Link). l.sent) same in let none = no_more es e u v off in omega (arith, sent, none)
]
step_sent arts x es w n m e i u v acts reaches (Sends is same) = elim (cases_Bool (is_poll u v e)) [
  | inl on ↦ let sent = ap (λ (l : Link). l.sent) same in let one = one_more es e u v on in omega (arith, sent, one)
  | inr off ↦ absurd ((subst (NoPoll v) is (no_poll arts x w n e i u v acts off reaches)) refl)
]
step_sent arts x es w n m e i u v acts reaches (Hears bytes is same) = elim (cases_Bool (is_poll u v e)) [
  | inl on ↦ absurd (let both : Datagram v bytes ≡ Poll v = sym is ∙ poll_input arts x w n e i u v on reaches in cc)
  | inr off ↦
      let sent = ap (λ (l : Link). l.sent) same ∙ after_sent arts n v bytes in
      let none = no_more es e u v off in
      omega (arith, sent, none)
]

pub away_poll : (e : Event) (u v : NodeId) → (acting e ≡ u → ⊥) → is_poll u v e ≡ false
away_poll e u v away = elim (cases_Bool (is_poll u v e)) [
  | inl on ↦ absurd (away (ap acting (poll_is u v e on)))
  | inr off ↦ off
]

-- what moves no node is no poll of one that runs
pub idle_poll : (w : World) (e : Event) (u v : NodeId) → (acting e ≡ u → ⊥) ⊎ MovesNobody w e → is_poll u v e ≡ false
idle_poll w e u v (inl away) = away_poll e u v away
idle_poll w e u v (inr none) = elim (cases_Bool (is_poll u v e)) [
  | inl on ↦ absurd (never (subst (MovesNobody w) (poll_is u v e on) none))
  | inr off ↦ off
]
  where
    never : MovesNobody w (events.Poll u v) → ⊥
    never (inl craft) = craft.1
    never (inr (inl missing)) = (let f : false ≡ true = missing in cc)
    never (inr (inr other)) = other tt
