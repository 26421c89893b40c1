-- What a frame between two nodes that stay up leaves, where it is passed before the next is made: the facts on which told starts rest.
use Rattle.std.proofs.Common.{◌≡◌, ◌<◌, ◌≤◌, ◌==◌, true, false, max, List, Some, Ok, refl, sym, ap, subst, ◌∙◌, inl, inr, arith}
use Rattle.std.specs.List.{list_any, position_or_len}
use Rattle.std.proofs.lemmas.Bool.{cases_Bool, cases_lt, eq-eqb, eqb-true, lt-ltb}
use Rattle.std.proofs.lemmas.Bool.Decides.{nat_tests}
use Rattle.sp_base.specs.declared.id.NodeId.{NodeId}
use Rattle.sp_topology.specs.Neighbours.{joins}
use Rattle.sp_topology.specs.declared.topology.NodeKey.{NodeKey}
use Rattle.sp_rules.specs.Arrivals.{before_document, document_at, handled, is_tagged, link_after, link_says, not_taken, or_fresh, read_by, reply_at}
use Rattle.sp_rules.specs.Arrivals.{sections_in}
use Rattle.sp_rules.specs.Arts.{Arts}
use Rattle.sp_rules.specs.Link.{Link, after_answer, is_above}
use Rattle.sp_rules.specs.Lives.{held_boot, is_life, next_row}
use Rattle.sp_rules.specs.Node.{NodeState, call_refusal, is_shut_to, link_in, version_of}
use Rattle.sp_rules.specs.Parts.{Fixed, Parts, changes, is_signed, place_in}
use Rattle.sp_rules.specs.Polls.{contents_to, is_served}
use Rattle.sp_rules.specs.Steps.{Datagram, NodeStep, Output}
use Rattle.sp_rules.specs.Topologies.{is_shut}
use Rattle.sp_rules.specs.Versions.{is_heard_of}
use Rattle.sp_rules.specs.declared.link.LinkAnswer.TheVariants as answers
use Rattle.sp_rules.specs.declared.node.LinkReply.TheVariants as replies
use Rattle.laws_node.proofs.Spreading.{versions_are_heard}
use Rattle.laws_runs.specs.Signs.{Good}
use Rattle.laws_runs.proofs.HeldBoots.{held_boots_are_born}
use Rattle.laws_runs.proofs.Lists.{both}
use Rattle.laws_runs.proofs.Ready.{readied_parts}
use Rattle.laws_runs.proofs.Tables.{same_node}
use Rattle.sp_runs.specs.Journals.{reply_word}
use Rattle.sp_runs.specs.Lives.{ready}
use Rattle.sp_runs.specs.Rounds.{is_pass}
use Rattle.sp_runs.specs.Runs.{is_poll, next_frame, polls}
use Rattle.sp_runs.specs.Settings.{Setting, fixed_at, may_change}
use Rattle.sp_runs.specs.Worlds.{node_in}
use Rattle.sp_schedule_events.specs.declared.event.Event.{Event}
use Rattle.laws_progress.proofs.Arrives.{extended_came}
use Rattle.laws_progress.proofs.Awaited.{Claim, comes_true}
use Rattle.laws_progress.proofs.Becomes.{readied_keeps}
use Rattle.laws_progress.proofs.Facts.{AreNoPolls, Goes}
use Rattle.laws_progress.proofs.Framed.{Came, Framed, Learns, Taken, Too_late, came, frame_at, served_sections, tagged_at, taken_reply}
use Rattle.laws_progress.proofs.KeptVersions.{heard_rises}
use Rattle.laws_progress.proofs.LastBoots.{held_below, last_boot}
use Rattle.laws_progress.proofs.LifeFrames.{is_sent, taken_told}
use Rattle.laws_progress.proofs.LifeRows.{all_rows, has_row}
use Rattle.laws_progress.proofs.Passes.{datagram_after, datagram_link, datagram_read}
use Rattle.laws_progress.proofs.Polls.{answered, none_polled, one_polled, same_place}
use Rattle.laws_progress.proofs.Rows.{heard_there, rows_are}
use Rattle.laws_progress.proofs.SpreadFacts.{IsCarried, IsTold, Sees, Spreading}
use Rattle.laws_progress.proofs.States.{seen_at}
use Rattle.laws_progress.proofs.UpFacts.{carries, carries_none, held_rises, is_node_of, knows_both, next_of, place, row_there, rows_of, sees_under, topology_of}
use Rattle.laws_progress.proofs.UpFacts.{within}
use Rattle.laws_progress.proofs.UpFrames.{Frame, Lasts, UpHop, boot_of, boot_stays, frame, has_link, head_at, head_is, hop_of, known, of_link, pair, turned}
use Rattle.laws_progress.proofs.UpStates.{Interval, IsTelling, StepOf, Took, UpNext, UpState, keeps_at, took}
use Rattle.laws_progress.proofs.Versions.{edge_at, has_heard, heard_least, served_there, still_heard}

module _ (c : Interval) (telling : IsTelling c) where
  abbrev arts : Arts
  arts = c.arts

  abbrev x : Setting
  x = c.x

  abbrev W : Type 0
  W = UpState c

  abbrev at : Sees W
  at = sees_under c telling.version

  abbrev Next : W → Event → W → Type 0
  Next w e y = UpNext c w e y

  -- a hop over an edge that the version doesn't withdraw
  abbrev IsOpen : NodeId → NodeId → Type 0
  IsOpen u v = is_shut telling.weights (position_or_len (joins u.0 v.0) x.topology.edges) ≡ false

  pub record OpenHop (u v : NodeId) : Type 0 where
    pub hop : UpHop c u v
    pub open_edge : is_shut telling.weights (position_or_len (joins u.0 v.0) c.x.topology.edges) ≡ false

  turned_open : (u v : NodeId) → IsOpen u v → IsOpen v u
  turned_open u v on = ap (is_shut telling.weights) (same_place v.0 u.0 x.topology.edges) ∙ on

  pub back_hop : (u v : NodeId) → OpenHop u v → OpenHop v u
  back_hop u v h = record { hop = turned c u v h.hop; open_edge = turned_open u v h.open_edge }

  -- what a node knows of a neighbour is both
  knows_of_both : (w : W) (u v : NodeId) (n : NodeState) → node_in w.state.world.nodes u ≡ Some n → at.knows w u v ≡ true
      → (((link_in n v).peer_boot == last_boot x w.state.world v) ≡ true) × (has_heard x telling.version v n ≡ true)
  knows_of_both w u v n there knows =
      both ((link_in n v).peer_boot == last_boot x w.state.world v) (has_heard x telling.version v n)
      (sym (ap (seen_at false (knows_both x telling.version (last_boot x w.state.world v) v)) there) ∙ knows)

  knows_both_of : (w : W) (u v : NodeId) (n : NodeState) → node_in w.state.world.nodes u ≡ Some n
      → ((link_in n v).peer_boot == last_boot x w.state.world v) ≡ true → has_heard x telling.version v n ≡ true → at.knows w u v ≡ true
  knows_both_of w u v n there now heard =
      ap (seen_at false (knows_both x telling.version (last_boot x w.state.world v) v)) there ∙ rw (now, heard) refl

  -- it stays known
  pub known_on : (w y : W) (e : Event) (u v : NodeId) → UpHop c u v → UpNext c w e y → at.knows w u v ≡ true → at.knows y u v ≡ true
  known_on w y e u v hop next knows =
      let t = took c w y e next u hop.near in
      let was_both = knows_of_both w u v t.before t.there knows in
      let was : (link_in t.before v).peer_boot ≡ last_boot x w.state.world v = eqb-true _ _ was_both.0 in
      let now : ((link_in t.after v).peer_boot == last_boot x y.state.world v) ≡ true =
      sym (ap (seen_at false (λ m. (link_in m v).peer_boot == last_boot x y.state.world v)) t.left)
      ∙ known c w y e u v hop next (ap (seen_at false (λ m. (link_in m v).peer_boot == last_boot x w.state.world v)) t.there ∙ was_both.0) in
      let boot = readied_keeps x w.state.world t.before t.node (λ m. (link_in m v).peer_boot ≡ (link_in t.before v).peer_boot) (λ upto same. same) t.readied
      refl in
      let below = (of_link c y u v hop t.after t.left).below in
      let life = boot_stays c w y e next v hop.far in
      let heard_node = readied_keeps x w.state.world t.before t.node (λ m. has_heard x telling.version v m ≡ true) (λ upto same. same) t.readied was_both.1 in
      let heard : has_heard x telling.version v t.after ≡ true = elim t.how [
        | inl still ↦ ap (has_heard x telling.version v) still.0 ∙ heard_node
        | inr s ↦ still_heard x telling.version v t.node t.after (heard_rises arts t.node s.input s.output t.after v s.step
            (λ bytes is.
            let same = datagram_link arts t.node t.after v bytes (has_link c w y e u v hop t)
            (datagram_read arts x t.node v bytes s.output t.after (next_frame (ready x w.state.world e) e) s.entry.reply
            (subst (λ i. NodeStep arts t.node i s.output t.after) is s.step) s.journal.reply) in
            let peer = ap (λ (l : Link). l.peer_boot) same in
            let low : (link_after arts t.node v bytes).peer_boot ≤ (link_in t.node v).peer_boot = omega (arith, was, boot, below, life, peer) in
            grind (arith, nat_tests, low))) heard_node
      ] in
      knows_both_of y u v t.after t.left now heard

  module _ (f : Frame c) (open_edge : IsOpen f.from f.to) where
    abbrev w : W
    w = f.state

    abbrev u : NodeId
    u = f.from

    abbrev v : NodeId
    v = f.to

    abbrev n : NodeState
    n = f.maker

    abbrev back : UpHop c v u
    back = turned c u v f.hop

    back_open : IsOpen v u
    back_open = turned_open u v open_edge

    abbrev Done : W → Type 0
    Done y = IsTold W at (place x) w y u v

    framed_is : Framed arts x u v n (frame c f)
    framed_is =
        frame_at arts x w.state.events w.state.journal w.state.world c.fits c.reads w.state.run u v f.hop.joined n f.there

    -- it carries what u has in turn where it knows v
    served_is : at.knows w u v ≡ true → is_served n v ≡ true
    served_is knows =
        served_there x telling.version telling.weights u v f.hop.joined open_edge n (is_node_of c w u n f.there).fixed
        (telling.under n (w.holds u f.hop.near n f.there))
        (both ((link_in n v).peer_boot == last_boot x w.state.world v) (has_heard x telling.version v n)
        (sym (ap (seen_at false (knows_both x telling.version (last_boot x w.state.world v) v)) f.there) ∙ knows)).1

    fresh_reply : (y z : W) (e : Event) (t : Took arts x y.state.world z.state.world e v) → at.knows w u v ≡ true
        → or_fresh (not_taken t.node.live.version (arts.head (frame c f)).topology (arts.is_document (frame c f)) (sections_in arts t.node.fixed (frame c f))
        (is_shut_to t.node u))
        ≡ replies.Fresh
    fresh_reply y z e t knows =
        let fixed : t.node.fixed ≡ t.before.fixed = (readied_parts x y.state.world t.before t.node t.readied).1 in
        let its = (is_node_of c y v t.before t.there).fixed in
        let len = ap (λ (g : Fixed). g.signature_len) (fixed ∙ its) in
        let runs = telling.under t.before (y.holds v f.hop.far t.before t.there) in
        let version = readied_keeps x y.state.world t.before t.node (λ q. q.live.version ≡ telling.version) (λ upto h. h) t.readied runs.0 in
        let on_edge = readied_keeps x y.state.world t.before t.node (λ q. is_shut_to q u ≡ false) (λ upto h. h) t.readied
        (edge_at x telling.version telling.weights v u back.joined back_open t.before its runs) in
        taken_reply arts x u v n (frame c f) framed_is (served_is knows) t.node len ((telling.under n (w.holds u f.hop.near n f.there)).0 ∙ sym version) on_edge

    -- the version of its head is kept
    heard_now : (y z : W) (e : Event) → UpNext c y e z → Lasts c f z → (t : Took arts x y.state.world z.state.world e v)
        → (s : StepOf arts x y.state.world e v t.node t.after) → s.input ≡ Datagram u (frame c f)
        → (link_after arts t.node u (frame c f)).peer_boot ≡ n.fixed.boot
        → has_heard x telling.version u t.after ≡ true
    heard_now y z e next l t s is boot = heard_least x telling.version u t.after least
      where
        least : may_change x ≡ true → telling.version ≤ version_of t.after u
        least may =
            let step = subst (λ i. NodeStep arts t.node i s.output t.after) is s.step in
            let fixed : t.node.fixed ≡ fixed_at x v t.before.fixed.boot =
            (readied_parts x y.state.world t.before t.node t.readied).1 ∙ (is_node_of c y v t.before t.there).fixed in
            let free = answered x (next_frame (ready x y.state.world e) e) (call_refusal t.node u) _ s.entry.reply
            (ap (λ (o : Output). reply_word x (next_frame (ready x y.state.world e) e) o.reply) (sym step.0) ∙ s.journal.reply) in
            let tagged =
            readied_keeps x y.state.world t.before t.node (λ q. is_tagged (link_says arts (link_in q u) (frame c f)) ≡ true) (λ upto h. h) t.readied
            (tagged_at arts x y.state.events y.state.journal y.state.world c.fits c.reads y.state.run u v (hop_of c u v f.hop) t.before t.there n (frame c f)
            framed_is) in
            let below = (of_link c y v u back t.before t.there).below in
            let ready_is =
            readied_keeps x y.state.world t.before t.node (λ q. (link_in q u).peer_boot ≡ (link_in t.before u).peer_boot) (λ upto h. h) t.readied refl in
            let life = boot_stays c y z e next u f.hop.near in
            let near = l.near in
            let head = (head_at c f).boot_is in
            let rows = readied_keeps x y.state.world t.before t.node (λ q. list_any (is_heard_of u) q.heard ≡ true) (λ upto h. h) t.readied
            (heard_there x v u t.before (rows_are arts x y.state.events y.state.journal y.state.world c.fits c.reads.carries y.state.run v t.before t.there)
            back.joined) in
            let kept = versions_are_heard arts t.node u (frame c f) (ap changes fixed ∙ may) (record {
              called = free;
              opened = framed_is.opens;
              tagged = tagged;
              lately = λ on. elim (cases_lt (link_in t.node u).peer_boot (link_after arts t.node u (frame c f)).peer_boot) [
                | inl up ↦ inl (lt-ltb _ _ up)
                | inr same ↦ inr (omega (arith, same, below, ready_is, life, near, head, boot))
              ];
              row = rows;
            }) in
            let after = ap (λ (q : NodeState). version_of q u) step.1 in
            let topology = framed_is.topology in
            let version = (telling.under n (w.holds u f.hop.near n f.there)).0 in
            omega (arith, kept, after, topology, version)

    -- what was told stays told
    done_on : (y z : W) (e : Event) → UpNext c y e z → Done y → Done z
    done_on y z e next d = record {
      learned = known_on y z e v u back next d.learned;
      told = λ o knows carried.
          let was = d.told o knows carried in
          let up = held_rises c y z e v o f.hop.far next in
          omega (arith, was, up);
    }

    -- ---- it is taken

    read_at : (y z : W) (e : Event) (t : Took arts x y.state.world z.state.world e v) → (s : StepOf arts x y.state.world e v t.node t.after)
        → s.input ≡ Datagram u (frame c f)
        → t.after ≡ read_by arts (before_document arts t.node u (frame c f)) (document_at arts t.node u (frame c f))
    read_at y z e t s is =
        datagram_read arts x t.node u (frame c f) s.output t.after (next_frame (ready x y.state.world e) e) s.entry.reply
        (subst (λ i. NodeStep arts t.node i s.output t.after) is s.step) s.journal.reply

    -- the state of v after it took it
    taken_at : (y z : W) (e : Event) (t : Took arts x y.state.world z.state.world e v) → (s : StepOf arts x y.state.world e v t.node t.after)
        → s.input ≡ Datagram u (frame c f)
        → t.after ≡ before_document arts t.node u (frame c f)
    taken_at y z e t s is =
        datagram_after arts x t.node u (frame c f) s.output t.after (next_frame (ready x y.state.world e) e) s.entry.reply
        (subst (λ i. NodeStep arts t.node i s.output t.after) is s.step) s.journal.reply
        (keeps_at c telling y z e v f.hop.far t)

    told_of : (y z : W) (e : Event) → UpNext c y e z → Lasts c f z → (t : Took arts x y.state.world z.state.world e v)
        → (s : StepOf arts x y.state.world e v t.node t.after) → s.input ≡ Datagram u (frame c f) → reply_at arts t.node u (frame c f) ≡ replies.Fresh
        → (o : NodeId) → at.knows w u v ≡ true → IsCarried W at (place x o) w u v → at.held w u o ≤ at.held z v o
    told_of y z e next l t s is fresh o knows carried = elim (cases_lt 0 (at.held w u o)) [
      | inr none ↦ omega (arith, none)
      | inl some ↦ elim (cases_Bool (o.0 == v.0)) [
        | inl t_own ↦ own (same_node o v (eqb-true _ _ t_own))
        | inr away ↦ other some away
      ]
    ]
      where
        first : at.held w u o ≡ held_boot n.parts.lives o
        first = ap (seen_at 0 (λ m. held_boot m.parts.lives o)) f.there

        last : at.held z v o ≡ held_boot t.after.parts.lives o
        last = ap (seen_at 0 (λ m. held_boot m.parts.lives o)) t.left

        -- of itself v holds the boot of its life
        own : o ≡ v → at.held w u o ≤ at.held z v o
        own mine =
            let low = held_below arts x w.state.events w.state.journal w.state.world c.fits c.reads.carries w.state.run u v n f.there (c.correct v f.hop.far) in
            let boots = held_boots_are_born arts x z.state.events z.state.journal z.state.world c.fits c.reads.carries z.state.run in
            let holds = boots.own telling.epochs v t.after t.left in
            let life = boot_of c z v t.after t.left in
            let far = l.far in
            let before = ap (λ (q : NodeId). held_boot n.parts.lives q) mine in
            let after = ap (λ (q : NodeId). held_boot t.after.parts.lives q) mine in
            omega (arith, first, last, low, holds, life, far, before, after)

        other : 0 < at.held w u o → (o.0 == v.0) ≡ false → at.held w u o ≤ at.held z v o
        other some away =
            let mine = is_node_of c w u n f.there in
            let nodes = topology_of c w u n f.there in
            let next_is = next_of c w u v (place x o) n f.there carried in
            let sent = is_sent x (Good arts x w.state.events w.state.journal) u n v o mine (omega (arith, first, some))
            (ap (λ (ks : List NodeKey). next_row n.parts.lives n.parts.origins (place_in ks v)) nodes ∙ next_is) in
            let fixed : t.node.fixed ≡ t.before.fixed = (readied_parts x y.state.world t.before t.node t.readied).1 in
            let its = (is_node_of c y v t.before t.there).fixed in
            let fixed_is : t.node.fixed ≡ fixed_at x v t.before.fixed.boot = fixed ∙ its in
            let right : is_signed arts t.node.fixed sent.object ≡ true = ap (λ (g : Fixed). is_signed arts g sent.object) fixed_is ∙ sent.keeps.right in
            let sections : sections_in arts t.node.fixed (frame c f) ≡ Ok (contents_to n.fixed n.parts v) =
            ap (λ (g : Fixed). sections_in arts g (frame c f)) fixed_is ∙ served_sections arts x u v n (frame c f) framed_is (served_is knows) in
            let parts : t.after.parts ≡ (handled arts t.node u (frame c f)).parts = ap (λ (m : NodeState). m.parts) (taken_at y z e t s is) in
            let row = has_row x.topology.nodes t.after.parts.lives o (rows_of c z v t.after t.left) sent.there in
            let took_it =
            taken_told arts t.node u o (frame c f) (contents_to n.fixed n.parts v) sent.object refl fresh sections
            (ap (λ (g : Fixed). g.epochs) fixed_is ∙ telling.epochs) sent.carried sent.kind right
            (ap (λ (g : Fixed). o.0 == g.me.0) fixed_is ∙ away) (ap (λ (q : Parts). list_any (is_life o) q.lives) (sym parts) ∙ row) in
            let end = ap (λ (q : Parts). held_boot q.lives o) parts in
            let boot = sent.boot in
            omega (arith, first, last, took_it, end, boot)

    done_now : (y z : W) (e : Event) → UpNext c y e z → Lasts c f z → (t : Took arts x y.state.world z.state.world e v)
        → (s : StepOf arts x y.state.world e v t.node t.after) → s.input ≡ Datagram u (frame c f) → link_in t.after u ≡ link_after arts t.node u (frame c f)
        → link_after arts t.node u (frame c f) ≡ after_answer (link_in t.node u) (arts.head (frame c f)) answers.Fresh
        → reply_at arts t.node u (frame c f)
        ≡ or_fresh (not_taken t.node.live.version (arts.head (frame c f)).topology (arts.is_document (frame c f)) (sections_in arts t.node.fixed (frame c f))
        (is_shut_to t.node u))
        → Done z
    done_now y z e next l t s is link left reply = record {
      learned =
          let boot : (link_after arts t.node u (frame c f)).peer_boot ≡ n.fixed.boot = ap (λ (k : Link). k.peer_boot) left ∙ (head_at c f).boot_is in
          let heard = heard_now y z e next l t s is boot in
          let now : ((link_in t.after u).peer_boot == last_boot x z.state.world u) ≡ true =
          eq-eqb _ _ (ap (λ (k : Link). k.peer_boot) link ∙ boot ∙ sym l.near) in
          ap (seen_at false (knows_both x telling.version (last_boot x z.state.world u) u)) t.left ∙ rw (now, heard) refl;
      told = λ o knows carried. told_of y z e next l t s is (reply ∙ fresh_reply y z e t knows) o knows carried;
    }

    -- ---- it comes

    comes : (y z : W) (e : Event) → Next y e z → Lasts c f y → Lasts c f z → (t : Took arts x y.state.world z.state.world e v)
        → (s : StepOf arts x y.state.world e v t.node t.after) → s.input ≡ Datagram u (frame c f) → is_above (pair c f) (link_in t.before u).seen ≡ true
        → Done z
    comes y z p next l on t s input waits =
        let link = datagram_link arts t.node t.after u (frame c f) (has_link c y z p v u back t) (read_at y z p t s input) in
        let comes =
        came arts x y.state.events y.state.journal y.state.world c.fits c.reads y.state.run u v (hop_of c u v f.hop) t.before t.there n (frame c f) framed_is in
        let comes_now =
        readied_keeps x y.state.world t.before t.node (λ q. Came arts q u (frame c f))
        (λ upto h. extended_came arts t.before upto u (frame c f) h) t.readied comes in
        go link comes_now
      where
        go : link_in t.after u ≡ link_after arts t.node u (frame c f) → Came arts t.node u (frame c f) → Done z
        go link (Learns off left reply) =
            let k = of_link c z v u back t.after t.left in
            let below = k.below in
            let near = on.near in
            let head = (head_at c f).boot_is in
            let boot : (link_in t.after u).peer_boot ≡ max (link_in t.node u).peer_boot (arts.head (frame c f)).boot =
            ap (λ (q : Link). q.peer_boot) (link ∙ left) in
            record {
              learned =
                  let now : ((link_in t.after u).peer_boot == last_boot x z.state.world u) ≡ true = eq-eqb _ _ (omega (arith, boot, head, below, near)) in
                  let peer = ap (λ (q : Link). q.peer_boot) link in
                  knows_both_of z v u t.after t.left now (heard_now y z p next on t s input (omega (arith, peer, boot, head, below, near)));
              told = λ o knows carried.
                  let known : (link_in n v).peer_boot ≡ last_boot x w.state.world v = eqb-true _ _ (knows_of_both w u v n f.there knows).0 in
                  let echo = framed_is.echo in
                  let mine = boot_of c y v t.before t.there in
                  let fixed = ap (λ (f : Fixed). f.boot) (readied_parts x y.state.world t.before t.node t.readied).1 in
                  let stays = boot_stays c y z p next v f.hop.far in
                  let far = on.far in
                  let echoes : ((arts.head (frame c f)).echo == t.node.fixed.boot) ≡ true =
                  eq-eqb _ _ (omega (arith, known, echo, mine, fixed, stays, far)) in
                  absurd (let wrong : true ≡ false = sym echoes ∙ off in cc);
            }
        go link (Too_late echo below left reply) =
            let ready_is =
            readied_keeps x y.state.world t.before t.node (λ q. (link_in q u).seen ≡ (link_in t.before u).seen) (λ upto same. same) t.readied refl in
            let head = head_is c f in
            absurd (let wrong : true ≡ false = sym waits ∙ sym (ap (is_above (pair c f)) ready_is) ∙ ap (λ q. is_above q (link_in t.node u).seen) (sym head)
            ∙ below in cc)
        go link (Taken echo above left reply) = done_now y z p next on t s input link left reply

    abbrev claim : Claim c f
    claim = record { Done = Done; done_on = done_on; comes = comes }

  -- ---- it is heard

  pub told : (w y z v : W) (e p : Event) (es : List Event) (a b : NodeId) → OpenHop a b → Next w e y → is_poll a b e ≡ true → Goes W Next y es z
      → AreNoPolls a b es → Next z p v → is_pass a b (polls y.state.events a b) p ≡ true → IsTold W at (place x) w v a b
  told w y z v e p es a b hop step poll g none next is =
      let n = w.runs a hop.hop.near in
      let f : Frame c = record { state = w; from = a; to = b; hop = hop.hop; maker = n.0; there = n.1 } in
      comes_true c f (claim f hop.open_edge) y z v e p es step poll g none next is

  -- ---- all of it

  pub serves : (w : W) (u v : NodeId) → OpenHop u v → (n : NodeState) → node_in w.state.world.nodes u ≡ Some n → at.knows w u v ≡ true → is_served n v ≡ true
  serves w u v hop n there knows =
      let f : Frame c = record { state = w; from = u; to = v; hop = hop.hop; maker = n; there = there } in
      served_is f hop.open_edge knows

  abbrev pub spreading : Spreading
  spreading = record {
    State = W;
    Next = Next;
    Up = c.Up;
    Hop = OpenHop;
    at = at;
    place = place x;
    all = all_rows x.topology.nodes;
    is_up = λ u v hop. hop.hop.near;
    held_rises = held_rises c;
    known = λ w y e u v hop next knows. known_on w y e u v hop.hop next knows;
    one_polled = λ w y e u v hop next is. one_polled arts x c.all w.state y.state e u v next.follows is;
    none_polled = λ w y e u v hop next off. none_polled arts x c.all w.state y.state e u v next.follows off;
    carries = λ w y e u v row hop next is knows carried. carries c w y e u v row hop.hop.near hop.hop.far
        (λ n there. serves w u v hop n there knows) next is carried;
    carries_none = λ w y e u v hop next off. carries_none c w y e u v hop.hop.near hop.hop.far next off;
    row_there = row_there c;
    within = within c;
    told = told;
  }
