-- In a calm interval a frame that is passed comes through: the node that it reaches knows the sender's boot, and, where the frame echoes its own, has seen the
-- frame or a later one.
use Rattle.laws_progress.proofs.Arrives.{Arrived, extended_arrived, frame_arrived}
use Rattle.laws_node.proofs.Spreading.{versions_are_heard}
use Rattle.laws_progress.proofs.Polls.{answered, both_ways}
use Rattle.laws_progress.proofs.Rows.{heard_there}
use Rattle.sp_runs.specs.Journals.{reply_word}
use Rattle.sp_rules.specs.Parts.{changes}
use Rattle.laws_progress.proofs.Becomes.{MovesNobody, readied_keeps}
use Rattle.laws_progress.proofs.Calms.{Calmly, Moved, mover}
use Rattle.laws_progress.proofs.Changes.{era_is, life_is, lit}
use Rattle.laws_progress.proofs.Hears.{is_of, knows, link_row, rise_now, rows, top_now}
use Rattle.laws_progress.proofs.Meetings.{lt_on}
use Rattle.laws_progress.proofs.KnownRuns.{KnowsOf}
use Rattle.laws_progress.proofs.MakesNow.{slot_echo}
use Rattle.laws_progress.proofs.Passes.{datagram_link, datagram_read, in_place, pass_is}
use Rattle.laws_progress.proofs.States.{Era, IsBetween, IsEra, Watched, heard_of, in_life, knows_life, knows_now, numbered, sight}
use Rattle.laws_progress.proofs.Wires.{nothing_told, slot_in, told_of, wires}
use Rattle.laws_runs.proofs.Reaches.{came}
use Rattle.laws_progress.proofs.Versions.{has_heard, heard_least}
use Rattle.laws_runs.proofs.Ready.{ready_frames}
use Rattle.laws_runs.specs.Premises.{ComesThrough}
use Rattle.sp_base.specs.declared.id.Flow.{Flow}
use Rattle.sp_base.specs.declared.id.NodeId.{NodeId}
use Rattle.sp_frame.specs.declared.head.Head.{Head}
use Rattle.sp_rules.specs.Arrivals.{link_after}
use Rattle.sp_rules.specs.Arts.{Arts}
use Rattle.sp_rules.specs.Link.{Link, is_above, pair_of}
use Rattle.sp_rules.specs.Node.{NodeState, call_refusal, link_in, version_of}
use Rattle.sp_runs.specs.Inputs.{acting, input_of}
use Rattle.sp_runs.specs.Lives.{ready}
use Rattle.sp_runs.specs.Rounds.{is_pass}
use Rattle.sp_runs.specs.Runs.{next_frame}
use Rattle.sp_runs.specs.Settings.{Setting, SettingFits, may_change}
use Rattle.sp_runs.specs.Worlds.{frame_in, frames_in, node_in}
use Rattle.sp_schedule_events.specs.declared.event.Event.{Event}
use Rattle.std.proofs.Common.{Bool, List, None, Option, Some, ap, arith, false, inl, inr, nat_lt, not, refl, subst, suc, sym, true, zero, ℕ, ◌+◌, ◌==◌, ◌∙◌}
use Rattle.std.proofs.Common.{◌≡◌, ◌≤◌, ◌⊎◌}
use Rattle.std.proofs.lemmas.Bool.{cases_Bool, cases_lt, eq-eqb, eqb-true, ltb-false}
use Rattle.std.specs.Prelude.{is_some, option_map, slice_get}
use Rattle.sp_rules.specs.Steps.{Datagram, NodeStep, Output}
use Rattle.sp_schedule_events.specs.declared.event.Event.TheVariants as events
use Rattle.laws_progress.proofs.Framed.{Came, Learns, Taken, Too_late}

-- a frame that is there, its version, and its echo
record IsThere (arts : Arts) (x : Setting) (era : Era) (flow : Flow) (u v : NodeId) (o : Option (List ℕ)) : Type 0 where
  bytes : List ℕ
  there : o ≡ Some bytes
  life : ((arts.head bytes).boot == era.life u) ≡ true
  version : (told_of arts x era flow u v o).here ≡ ((arts.head bytes).topology == era.version)
  echo : (told_of arts x era flow u v o).echo ≡ ((arts.head bytes).echo == era.life v)

told_there : (arts : Arts) (x : Setting) (era : Era) (flow : Flow) (u v : NodeId) (o : Option (List ℕ))
    → ((told_of arts x era flow u v o).here ≡ true) ⊎ ((told_of arts x era flow u v o).echo ≡ true) → IsThere arts x era flow u v o
told_there arts x era flow u v None is = absurd (elim is [ inl z ↦ (let f : false ≡ true = z in cc) | inr z ↦ (let f : false ≡ true = z in cc) ])
told_there arts x era flow u v (Some bytes) is = elim (cases_Bool ((arts.head bytes).boot == era.life u)) [
  | inl t ↦ record {
    bytes = bytes;
    there = refl;
    life = t;
    version = rw t refl;
    echo = rw t (slot_echo era flow ((arts.head bytes).echo == era.life v) (slot_in era.kind (arts.sections x.signature_len bytes)));
  }
  | inr t ↦ absurd
      (elim is [
        | inl z ↦ (let f : nothing_told.here ≡ true = rw t at z in let g : false ≡ true = f in cc)
        | inr z ↦
            (let f : nothing_told.echo ≡ true = rw t at z in let g : false ≡ true = f in cc)
      ])
]

numbered_least : (early counter number : ℕ) → counter ≤ number → 1 ≤ counter → early + counter ≤ numbered early number
numbered_least early counter zero low some = absurd (omega (arith, low, some))
numbered_least early counter (suc number) low some = omega (arith, low)

-- what isn't above the last of the same boot has no higher counter
below_counter : (h : Head) (l : Link) → l.seen.0 ≤ h.boot → is_above (pair_of h) l.seen ≡ false → (l.seen.0 ≡ h.boot) × (h.counter ≤ l.seen.1)
below_counter h l low below = elim (cases_Bool (nat_lt l.seen.0 h.boot)) [
  | inl t ↦ absurd (let f : true ≡ false = rw t at below in cc)
  | inr t ↦
      let ge = ltb-false l.seen.0 h.boot t in
      let same : l.seen.0 ≡ h.boot = omega (arith, ge, low) in
      let on : (h.boot == l.seen.0) ≡ true = eq-eqb _ _ (sym same) in
      (same, ltb-false l.seen.1 h.counter (rw (t, on) at below))
]

module _ (arts : Arts) (x : Setting) (all : List Event) (era : Era) (flow : Flow) (fits : SettingFits arts x)
    (reads : ComesThrough x.topology.format arts x.signature_len)
    (is_era : IsEra x flow era) (w y : Watched arts x all era) (e : Event) (calm : Calmly arts x all era flow w e y) (u v : NodeId) (hop : IsBetween x era u v)
    (k : ℕ) (pass : is_pass u v k e ≡ true) where
  -- v knows u's life after it, and where it echoed the right one, has seen no less
  record PassDone (version echo : Bool) : Type 0 where
    learned : version ≡ true → (sight arts x all era flow).knows y v u ≡ true
    late : echo ≡ true → k ≤ (wires arts x all era flow).seen y v u

  module _ (bytes : List ℕ) (frame : frame_in w.at.world.directions u v k ≡ Some bytes) (life : ((arts.head bytes).boot == era.life u) ≡ true) where
    arrives_at : MovesNobody w.at.world (events.Pass u v k) → ⊥
    arrives_at (inl craft) = craft.1
    arrives_at (inr (inl missing)) =
        (let f : not (is_some (Some bytes)) ≡ true = ap (λ o. not (is_some o)) (sym frame) ∙ missing in let g : false ≡ true = f in cc)
    arrives_at (inr (inr other)) = other tt

    mv : Moved arts x all era flow fits reads is_era w y e calm v
    mv = mover arts x all era flow fits reads is_era w y e calm v hop.second (ap acting (pass_is u v k e pass))
        (λ nobody. arrives_at (subst (MovesNobody w.at.world) (pass_is u v k e pass) nobody))

    first : in_life era v mv.act.node ≡ true
    unfolding mv
    first = (era_is era flow v mv.act.node mv.first).0

    second : in_life era v mv.act.after ≡ true
    unfolding mv
    second = (era_is era flow v mv.act.after mv.second).0

    input_is : mv.act.input ≡ Datagram u bytes
    input_is =
        let a = mv.act in
        let reaches : option_map (Datagram u) (frame_in (ready x w.at.world e).directions u v k) ≡ Some a.input =
        sym (ap (input_of arts x (ready x w.at.world e) a.node) (pass_is u v k e pass)) ∙ a.reaches in
        let here : Some (Datagram u bytes) ≡ Some a.input =
        ap (option_map (Datagram u)) (sym frame ∙ ap (λ ds. frame_in ds u v k) (sym (ready_frames x w.at.world e))) ∙ reaches in
        let same : a.input ≡ Datagram u bytes = cc in
        same

    link_now : link_in mv.act.after u ≡ link_after arts mv.act.node u bytes
    link_now =
        let a = mv.act in
        datagram_link arts a.node a.after u bytes (link_row arts x all era flow fits reads is_era w y e u v hop a first second)
        (datagram_read arts x a.node u bytes a.output a.after (next_frame (ready x w.at.world e) e) a.entry.reply
        (subst (λ i. NodeStep arts a.node i a.output a.after) input_is a.step) a.journal.reply)

    -- so it keeps the version of its head
    keeps_it : (j : ℕ) → Arrived arts x w.at.events w.at.world u v mv.act.node bytes j → (link_after arts mv.act.node u bytes).peer_boot ≡ era.life u
        → may_change x ≡ true → (arts.head bytes).topology ≤ version_of mv.act.after u
    keeps_it j it boot may =
        let a = mv.act in
        let step = subst (λ i. NodeStep arts a.node i a.output a.after) input_is a.step in
        let is = is_of arts x all era flow fits reads is_era w y e u v hop a first second in
        let free = answered x (next_frame (ready x w.at.world e) e) (call_refusal a.node u) _ a.entry.reply
        (ap (λ (o : Output). reply_word x (next_frame (ready x w.at.world e) e) o.reply) (sym step.0) ∙ a.journal.reply) in
        let least = versions_are_heard arts a.node u bytes (ap changes is.fixed ∙ may) (record {
          called = free;
          opened = it.framed.opens;
          tagged = it.tagged;
          lately = λ on. elim (cases_lt (link_in a.node u).peer_boot (link_after arts a.node u bytes).peer_boot) [
            | inl up ↦ inl (lt_on _ _ up)
            | inr same ↦
                let low = rise_now arts x all era flow fits reads is_era w y e u v hop a first second bytes input_is in
                let head = eqb-true _ _ life in
                inr (omega (arith, same, low, head, boot))
          ];
          row = heard_there x v u a.node (rows arts x all era flow fits reads is_era w y e u v hop a first second) (both_ways x u v hop.hop).joined;
        }) in
        subst (λ (q : NodeState). (arts.head bytes).topology ≤ version_of q u) (sym step.1) least

    done_by : (j : ℕ) → k ≡ suc j → Arrived arts x w.at.events w.at.world u v mv.act.node bytes j → Came arts mv.act.node u bytes
        → PassDone ((arts.head bytes).topology == era.version) ((arts.head bytes).echo == era.life v)
    done_by j k_is it came = go came
      where
        n : NodeState
        n = mv.act.node

        m : NodeState
        m = mv.act.after

        mine : mv.act.node.fixed.boot ≡ era.life v
        mine = (life_is era v mv.act.node first).1

        number : k ≡ era.early u v + (arts.head bytes).counter
        number = let z = w.placed u v hop.first hop.hop.joined j bytes it.there (eqb-true _ _ life) in omega (arith, z, k_is)

        some : 1 ≤ (arts.head bytes).counter
        some = let z = it.placed.some in let same = it.placed.head.counter_is in omega (arith, z, same)

        top : (link_in mv.act.after u).peer_boot ≤ era.life u
        top = top_now arts x all era flow fits reads is_era w y e u v hop mv.act first second

        known_at : (link_in mv.act.after u).peer_boot ≡ era.life u → knows_life era v u mv.act.after ≡ true
        known_at is = let t : ((link_in mv.act.after u).peer_boot == era.life u) ≡ true = eq-eqb _ _ is in let z = second in rw (z, t) refl

        heard_at : (link_in mv.act.after u).peer_boot ≡ era.life u → ((arts.head bytes).topology == era.version) ≡ true
            → has_heard x era.version u mv.act.after ≡ true
        heard_at is version =
            heard_least x era.version u mv.act.after
            (λ may.
            let least = keeps_it j it (ap (λ (l : Link). l.peer_boot) (sym link_now) ∙ is) may in
            let same = eqb-true _ _ version in omega (arith, least, same))

        knows_y : (link_in mv.act.after u).peer_boot ≡ era.life u → ((arts.head bytes).topology == era.version) ≡ true
            → (sight arts x all era flow).knows y v u ≡ true
        knows_y is version =
            let t = known_at is in
            let h = heard_at is version in
            lit false (knows_now x era v u) (node_in y.at.world.nodes v) mv.act.after mv.act.left ∙ rw (t, h) refl

        seen_y : (link_in mv.act.after u).peer_boot ≡ era.life u
            → (wires arts x all era flow).seen y v u ≡ numbered (era.early u v) (link_in mv.act.after u).seen.1
        seen_y is = lit 0 (heard_of era v u) (node_in y.at.world.nodes v) mv.act.after mv.act.left ∙ (let t = known_at is in rw t refl)

        knows_n : KnowsOf x w.at.world v u (link_in mv.act.node u)
        knows_n = knows arts x all era flow fits reads is_era w y e u v hop mv.act first second

        go : Came arts mv.act.node u bytes → PassDone ((arts.head bytes).topology == era.version) ((arts.head bytes).echo == era.life v)
        go (Learns off after reply) = record {
          learned = λ version.
              let boot = ap (λ (l : Link). l.peer_boot) (link_now ∙ after) in
              let same = eqb-true _ _ life in
              let most = top in
              knows_y (let q : (link_in mv.act.after u).peer_boot ≡ era.life u = omega (arith, boot, same, most) in q) version;
          late = λ z. absurd (let f : true ≡ false = sym z ∙ ap (λ b. (arts.head bytes).echo == b) (sym mine) ∙ off in cc);
        }
        go (Too_late on below after reply) =
            let boot = ap (λ (l : Link). l.peer_boot) (link_now ∙ after) in
            let seen = ap (λ (l : Link). l.seen.1) (link_now ∙ after) in
            let same = eqb-true _ _ life in
            let most = top in
            let first_is = knows_n.seen in
            let it_is = below_counter (arts.head bytes) (link_in mv.act.node u) (omega (arith, first_is, boot, most, same)) below in
            let at_life : (link_in mv.act.after u).peer_boot ≡ era.life u = let q = it_is.0 in omega (arith, q, first_is, boot, same) in
            record {
              learned = knows_y at_life;
              late = λ z.
                  let least = numbered_least (era.early u v) (arts.head bytes).counter (link_in mv.act.after u).seen.1
                  (let q = it_is.1 in omega (arith, q, seen)) some in
                  let is = seen_y at_life in
                  let num = number in
                  omega (arith, least, is, num);
            }
        go (Taken on above after reply) =
            let boot = ap (λ (l : Link). l.peer_boot) (link_now ∙ after) in
            let seen = ap (λ (l : Link). l.seen.1) (link_now ∙ after) in
            let same = eqb-true _ _ life in
            record {
              learned = knows_y (boot ∙ same);
              late = λ z.
                  let least = numbered_least (era.early u v) (arts.head bytes).counter (link_in mv.act.after u).seen.1 (omega (arith, seen)) some in
                  let is = seen_y (boot ∙ same) in
                  let num = number in
                  omega (arith, least, is, num);
            }

    done_at : (j : ℕ) → k ≡ suc j → slice_get (frames_in w.at.world.directions u v) j ≡ Some (Some bytes)
        → PassDone ((arts.head bytes).topology == era.version) ((arts.head bytes).echo == era.life v)
    done_at j k_is there =
        let a = mv.act in
        let before = frame_arrived arts x w.at.events w.at.journal w.at.world fits reads w.at.run u v hop.hop a.before a.there j bytes there in
        let it = readied_keeps x w.at.world a.before a.node (λ q. Arrived arts x w.at.events w.at.world u v q bytes j)
        (λ upto h. extended_arrived arts x w.at.events w.at.world u v a.before upto bytes j h) a.readied before in
        done_by j k_is it it.came

    done : PassDone ((arts.head bytes).topology == era.version) ((arts.head bytes).echo == era.life v)
    done = go k refl frame
      where
        go : (j : ℕ) → k ≡ j → frame_in w.at.world.directions u v j ≡ Some bytes
            → PassDone ((arts.head bytes).topology == era.version) ((arts.head bytes).echo == era.life v)
        go zero k_is at = absurd (let f : None ≡ Some bytes = at in cc)
        go (suc j) k_is at = done_at j k_is (in_place (slice_get (frames_in w.at.world.directions u v) j) bytes at)

  pub learns : ((wires arts x all era flow).told w u v k).here ≡ true → (sight arts x all era flow).knows y v u ≡ true
  learns here =
      let f = told_there arts x era flow u v (frame_in w.at.world.directions u v k) (inl here) in
      (done f.bytes f.there f.life).learned (sym f.version ∙ here)

  pub comes : ((wires arts x all era flow).told w u v k).echo ≡ true → k ≤ (wires arts x all era flow).seen y v u
  comes on =
      let f = told_there arts x era flow u v (frame_in w.at.world.directions u v k) (inr on) in
      (done f.bytes f.there f.life).late (sym f.echo ∙ on)
