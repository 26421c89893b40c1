-- A frame between two nodes that stay up, which is passed before the next is made: its receiver hasn't seen a later one, so it takes the frame, now or before.
-- What is claimed of that moment, and then stays, holds after the frame is passed.
use Rattle.std.proofs.Common.{◌≡◌, ◌≤◌, ◌⊎◌, ℕ, suc, true, false, List, [], ◌∷◌, ◌++◌, length, Option, Some, refl, sym, ap, subst, ◌∙◌, inl, inr, arith}
use Rattle.std.specs.Prelude.{is_some, not, option_and_then, option_map, slice_get}
use Rattle.std.proofs.lemmas.Option.{same_Some}
use Rattle.sp_base.proofs.ListLemmas.{get_push}
use Rattle.sp_base.specs.declared.id.NodeId.{NodeId}
use Rattle.sp_rules.specs.Arrivals.{link_after, reply_at}
use Rattle.sp_rules.specs.Arts.{Arts}
use Rattle.sp_rules.specs.Link.{Link, is_above}
use Rattle.sp_rules.specs.Node.{NodeState, link_in}
use Rattle.sp_rules.specs.Parts.{Fixed}
use Rattle.sp_rules.specs.Polls.{frame_to}
use Rattle.sp_rules.specs.Steps.{Datagram, Poll}
use Rattle.laws_runs.proofs.Ready.{readied_parts, ready_frames}
use Rattle.laws_runs.proofs.Running.{found_there}
use Rattle.sp_runs.specs.Forgery.{has_forged_tag}
use Rattle.sp_runs.specs.Inputs.{acting, input_of}
use Rattle.sp_runs.specs.Lives.{ready}
use Rattle.sp_runs.specs.Rounds.{is_pass}
use Rattle.sp_runs.specs.Runs.{is_poll, polls}
use Rattle.sp_runs.specs.Settings.{Setting}
use Rattle.sp_runs.specs.Worlds.{frame_in, frames_in}
use Rattle.sp_schedule_events.specs.declared.event.Event.{Event}
use Rattle.sp_schedule_events.specs.declared.event.Event.TheVariants as events
use Rattle.laws_progress.proofs.Becomes.{MovesNobody, readied_keeps}
use Rattle.laws_progress.proofs.Facts.{AreNoPolls, Goes, Stays, Steps}
use Rattle.laws_progress.proofs.Known.{LinkHeard, Learns_boot, Nothing, Takes, after_is, is_made}
use Rattle.laws_progress.proofs.LinkRuns.{poll_input}
use Rattle.laws_progress.proofs.Made.{FramesTurn, Leaves, Makes, Misses, frames_count, frames_turn}
use Rattle.laws_progress.proofs.Passes.{pass_is}
use Rattle.laws_progress.proofs.Places.{get_last}
use Rattle.laws_progress.proofs.Polls.{one_polled}
use Rattle.laws_progress.proofs.States.{Follow, Follows}
use Rattle.laws_progress.proofs.UpFacts.{is_node_of}
use Rattle.laws_progress.proofs.UpFrames.{Awaits, Comes, Frame, Lasts, LinkGoes, Quiet, UpHop, above_is, boot_of, boot_stays, frame, lasts_on, learned_below}
use Rattle.laws_progress.proofs.UpFrames.{link_goes, made_below, of_link, pair, stays_above, turned}
use Rattle.laws_progress.proofs.UpStates.{Interval, StepOf, Took, UpNext, UpState, took}

module _ (c : Interval) where
  abbrev arts : Arts
  arts = c.arts

  abbrev x : Setting
  x = c.x

  abbrev W : Type 0
  W = UpState c

  abbrev Next : W → Event → W → Type 0
  Next w e y = UpNext c w e y

  -- what holds once the frame came while it was awaited
  pub record Claim (f : Frame c) : Type 1 where
    pub Done : W → Type 0
    pub done_on : (y z : W) (e : Event) → UpNext c y e z → Done y → Done z
    pub comes : (y z : W) (e : Event) → UpNext c y e z → Lasts c f y → Lasts c f z → (t : Took c.arts c.x y.state.world z.state.world e f.to)
        → (s : StepOf c.arts c.x y.state.world e f.to t.node t.after) → s.input ≡ Datagram f.from (frame c f)
        → is_above (pair c f) (link_in t.before f.from).seen ≡ true → Done z

  module _ (f : Frame c) where
    abbrev w : W
    w = f.state

    abbrev u : NodeId
    u = f.from

    abbrev v : NodeId
    v = f.to

    abbrev n : NodeState
    n = f.maker

    abbrev back : UpHop c v u
    back = turned c u v f.hop

    -- ---- it is made

    begins : (y : W) (e : Event) → Next w e y → is_poll u v e ≡ true → Lasts c f y × Awaits c f y
    begins y e next poll =
        let t = took c w y e next v f.hop.far in
        let k = of_link c w v u back t.before t.there in
        let life = boot_of c w u n f.there in
        let below = k.below in
        let seen = k.seen in
        let was : is_above (pair c f) (link_in t.before u).seen ≡ true = above_is (pair c f) (link_in t.before u).seen (omega (arith, below, seen, life))
        (λ same. let low = k.counted n f.there (omega (arith, same, seen)) in omega (arith, low)) in
        let before : is_above (pair c f) (link_in t.node u).seen ≡ true =
        readied_keeps x w.state.world t.before t.node (λ q. is_above (pair c f) (link_in q u).seen ≡ true) (λ upto h. h) t.readied was in (
          record {
            made = made_now next.follows;
            near = boot_stays c w y e next u f.hop.near ∙ sym life;
            far = boot_stays c w y e next v f.hop.far;
          },
          λ m at_m. subst (λ (q : NodeState). is_above (pair c f) (link_in q u).seen ≡ true) (same_Some t.after m (sym t.left ∙ at_m))
              (still t before (link_goes c w y e v u back t)),
        )
      where
        of : FramesTurn arts w.state.world e y.state.world u v
            → frames_in y.state.world.directions u v ≡ frames_in w.state.world.directions u v ++ Some (frame c f) ∷ []
        of (Makes on b at_b is) =
            is
            ∙ ap (λ (q : NodeState). frames_in w.state.world.directions u v ++ Some (frame_to arts q v) ∷ []) (same_Some b n (sym at_b ∙ f.there))
        of (Misses on down is) = absurd (let wrong : true ≡ false = sym (found_there u n w.state.world.nodes f.there) ∙ down in cc)
        of (Leaves off is) = absurd (let wrong : true ≡ false = sym poll ∙ off in cc)

        made_now : Follows arts x c.all w.state e y.state
            → frames_in y.state.world.directions u v ≡ frames_in w.state.world.directions u v ++ Some (frame c f) ∷ []
        made_now (Follow j events journal range turn unforged) = of (frames_turn arts x w.state.world e j y.state.world turn u v)

        still : (t : Took arts x w.state.world y.state.world e v) → is_above (pair c f) (link_in t.node u).seen ≡ true
            → LinkGoes c w y e v u t → is_above (pair c f) (link_in t.after u).seen ≡ true
        still t before (Quiet same seen) = ap (is_above (pair c f)) seen ∙ before
        still t before (Comes s bytes is link) =
            absurd (let both : Datagram u bytes ≡ Poll v = sym is ∙ poll_input arts x (ready x w.state.world e) t.node e s.input u v poll s.reaches in cc)

    module _ (claim : Claim f) where
      -- ---- until it is passed

      waits_more : (y z : W) (e : Event) → Next y e z → is_poll u v e ≡ false → Lasts c f y → Awaits c f y → Awaits c f z ⊎ claim.Done z
      waits_more y z e next off l waits =
          let t = took c y z e next v f.hop.far in
          let was = waits t.before t.there in
          let before : is_above (pair c f) (link_in t.node u).seen ≡ true =
          readied_keeps x y.state.world t.before t.node (λ q. is_above (pair c f) (link_in q u).seen ≡ true) (λ upto h. h) t.readied was in
          let below = (of_link c z v u back t.after t.left).below in
          let later = lasts_on c f y z e next off l in
          let life = later.near in
          go t was before (omega (arith, below, life)) later (link_goes c y z e v u back t)
        where
          go : (t : Took arts x y.state.world z.state.world e v) → is_above (pair c f) (link_in t.before u).seen ≡ true
              → is_above (pair c f) (link_in t.node u).seen ≡ true → (link_in t.after u).peer_boot ≤ n.fixed.boot → Lasts c f z
              → LinkGoes c y z e v u t → Awaits c f z ⊎ claim.Done z
          go t was before low later (Quiet same seen) = inl (stays_above c f y z e t (ap (is_above (pair c f)) seen ∙ before))
          go t was before low later (Comes s bytes is link) = of (after_is arts t.node u bytes)
            where
              seen_is : (link_in t.after u).seen ≡ (link_after arts t.node u bytes).seen
              seen_is = ap (λ (k : Link). k.seen) link

              of : LinkHeard (link_in t.node u) (link_after arts t.node u bytes) (arts.head bytes) (reply_at arts t.node u bytes)
                  → Awaits c f z ⊎ claim.Done z
              of (Nothing boot seen) = inl (stays_above c f y z e t (ap (is_above (pair c f)) (seen_is ∙ seen) ∙ before))
              of (Learns_boot tagged boot seen) =
                  inl (stays_above c f y z e t (learned_below (pair c f) (link_in t.node u) (link_in t.after u) (arts.head bytes)
                  (ap (λ (k : Link). k.peer_boot) link ∙ boot) (seen_is ∙ seen) low (omega arith) before))
              of (Takes tagged above boot seen) =
                  let made = is_made arts x (ready x y.state.world e) t.node u bytes (c.correct u f.hop.near)
                  (subst (λ i. has_forged_tag arts x (ready x y.state.world e) t.node i ≡ false) is s.unforged) tagged in
                  let me : t.node.fixed.me ≡ v =
                  ap (λ (g : Fixed). g.me) ((readied_parts x y.state.world t.before t.node t.readied).1 ∙ (is_node_of c y v t.before t.there).fixed) in
                  let there : slice_get (frames_in y.state.world.directions u v) made.0 ≡ Some (Some bytes) =
                  ap (λ ds. slice_get (frames_in ds u v) made.0) (sym (ready_frames x y.state.world e))
                  ∙ ap (λ o. slice_get (frames_in (ready x y.state.world e).directions u o) made.0) (sym me) ∙ made.1 in
                  elim (get_push (frames_in w.state.world.directions u v) (Some (frame c f)) made.0 (Some bytes)
                  (ap (λ fs. slice_get fs made.0) (sym l.made) ∙ there)) [
                    | inl first ↦ inl (stays_above c f y z e t (ap (is_above (pair c f)) (seen_is ∙ seen) ∙ made_below c f made.0 bytes first))
                    | inr it ↦
                        let same : bytes ≡ frame c f = same_Some bytes (frame c f) it.1 in
                        inr (claim.comes y z e next l later t s (is ∙ ap (Datagram u) same) was)
                  ]

      way_on : (es : List Event) (y z : W) → Goes W Next y es z → AreNoPolls u v es → Lasts c f y → Awaits c f y ⊎ claim.Done y
          → Lasts c f z × (Awaits c f z ⊎ claim.Done z)
      way_on [] y z Stays none l h = (l, h)
      way_on (e ∷ es) y z (Steps {x = m} s g) none l h =
          let on = lasts_on c f y m e s none.0 l in
          let then_ : Awaits c f m ⊎ claim.Done m = elim h [
            | inl waits ↦ waits_more y m e s none.0 l waits
            | inr done ↦ inr (claim.done_on y m e s done)
          ] in
          way_on es m z g none.1 on then_

      -- ---- it is passed

      -- what stands in the place of the frame
      abbrev found : W → Option (List ℕ)
      found y = option_and_then (λ g. g) (slice_get (frames_in y.state.world.directions u v) (length (frames_in w.state.world.directions u v)))

      is_found : (y : W) → Lasts c f y → found y ≡ Some (frame c f)
      is_found y l =
          ap (λ (gs : List (Option (List ℕ))). option_and_then (λ g. g) (slice_get gs (length (frames_in w.state.world.directions u v)))) l.made
          ∙ ap (option_and_then (λ g. g)) (get_last (frames_in w.state.world.directions u v) (Some (frame c f)))

      abbrev number : ℕ
      number = suc (length (frames_in w.state.world.directions u v))

      passes : (y z : W) (p : Event) → Next y p z → p ≡ events.Pass u v number → Lasts c f y → Awaits c f y → claim.Done z
      passes y z p next is l waits =
          let t = took c y z p next v f.hop.far in
          let placed = is_found y l in
          elim t.how [
            | inl quiet ↦ absurd (never (subst (λ e. (acting e ≡ v → ⊥) ⊎ MovesNobody y.state.world e) is quiet.1) placed)
            | inr s ↦
                let comes_in : frame_in (ready x y.state.world p).directions u v number ≡ Some (frame c f) =
                ap (λ ds. frame_in ds u v number) (ready_frames x y.state.world p) ∙ placed in
                let gives : Some (Datagram u (frame c f)) ≡ Some s.input =
                sym (ap (option_map (Datagram u)) comes_in) ∙ sym (ap (input_of arts x (ready x y.state.world p) t.node) is) ∙ s.reaches in
                let input : s.input ≡ Datagram u (frame c f) = cc in
                claim.comes y z p next l (lasts_on c f y z p next (ap (is_poll u v) is) l) t s input (waits t.before t.there)
          ]
        where
          never : (acting (events.Pass u v number) ≡ v → ⊥) ⊎ MovesNobody y.state.world (events.Pass u v number) → found y ≡ Some (frame c f) → ⊥
          never (inl away) placed = away refl
          never (inr (inl craft)) placed = craft.1
          never (inr (inr (inl missing))) placed = (let wrong : false ≡ true = sym (ap (λ (o : Option (List ℕ)). not (is_some o)) placed) ∙ missing in cc)
          never (inr (inr (inr other))) placed = other tt

      -- ---- all of it

      pub comes_true : (y z r : W) (e p : Event) (es : List Event) → Next w e y → is_poll u v e ≡ true → Goes W Next y es z → AreNoPolls u v es → Next z p r
          → is_pass u v (polls y.state.events u v) p ≡ true → claim.Done r
      comes_true y z r e p es step poll g none next is =
          let first = begins y e step poll in
          let on = way_on es y z g none first.0 (inl first.1) in
          let count = frames_count arts x w.state.events w.state.journal w.state.world w.state.run u v in
          let one = one_polled arts x c.all w.state y.state e u v step.follows poll in
          let place_is : polls y.state.events u v ≡ suc (length (frames_in w.state.world.directions u v)) = omega (arith, count, one) in
          elim on.1 [
            | inl waits ↦ passes z r p next (pass_is u v (polls y.state.events u v) p is ∙ ap (events.Pass u v) place_is) on.0 waits
            | inr done ↦ claim.done_on z r p next done
          ]
