-- What a frame between two nodes that stay up leaves of the versions that they run under and keep, where it is passed before the next is made: the facts on
-- which the way of a document rests. They are those on which told starts rest, of a version in place of a boot, in a cycle of one row.
use Rattle.std.proofs.Common.{◌≡◌, ◌<◌, ◌≤◌, ℕ, ◌==◌, ◌&&◌, Bool, true, false, List, [], ◌∷◌, length, Option, Some, refl, sym, ap, subst, ◌∙◌}
use Rattle.std.proofs.Common.{inl, inr, arith}
use Rattle.std.specs.Prelude.{IsTrue, nat_lt, slice_get}
use Rattle.std.specs.List.{list_any}
use Rattle.std.proofs.lemmas.Bool.{cases_lt, eq-eqb, eqb-true, lt-ltb}
use Rattle.std.proofs.lemmas.Bool.Decides.{nat_tests}
use Rattle.sp_base.specs.declared.id.NodeId.{NodeId}
use Rattle.sp_rules.proofs.ArrivalLemmas.{link_with}
use Rattle.sp_rules.specs.Arrivals as arrivals
use Rattle.sp_rules.specs.Arrivals.{after_datagram, link_after, link_says, rises}
use Rattle.sp_rules.specs.Arts.{Arts, is_right}
use Rattle.sp_rules.specs.Link.{Link, after_answer, is_above}
use Rattle.sp_rules.specs.Node.{NodeState, link_in, version_of}
use Rattle.sp_rules.specs.Parts.{Fixed, changes}
use Rattle.sp_rules.specs.Steps.{Datagram, NodeStep}
use Rattle.sp_rules.specs.Versions.{Heard, is_heard_of, version_in}
use Rattle.sp_rules.specs.declared.link.LinkAnswer.{LinkAnswer}
use Rattle.laws_node.proofs.Changing.{versions_rise}
use Rattle.laws_node.proofs.Spreading.{versions_are_heard}
use Rattle.laws_node.proofs.Withdrawing.{sized}
use Rattle.laws_node.specs.Withdrawals.{IsSized}
use Rattle.laws_runs.specs.Signs.{Good, sizes_at}
use Rattle.laws_runs.proofs.Lists.{both}
use Rattle.laws_runs.proofs.Published.{has_version}
use Rattle.laws_runs.proofs.Ready.{readied_parts}
use Rattle.laws_runs.proofs.Versions.{versions_are_published}
use Rattle.sp_runs.specs.Lives.{ready}
use Rattle.sp_runs.specs.Rounds.{is_pass}
use Rattle.sp_runs.specs.Runs.{is_poll, next_frame, polls}
use Rattle.sp_runs.specs.Settings.{Setting, may_change}
use Rattle.sp_runs.specs.Worlds.{World, frames_in, node_in}
use Rattle.sp_schedule_events.specs.declared.event.Event.{Event}
use Rattle.laws_progress.specs.Spreading.{DocumentsBegin}
use Rattle.laws_progress.proofs.Awaited.{Claim, comes_true}
use Rattle.laws_progress.proofs.Becomes.{readied_keeps}
use Rattle.laws_progress.proofs.Facts.{AreNoPolls, Goes}
use Rattle.laws_progress.proofs.Framed.{Answers, Late, Learn, Take}
use Rattle.laws_progress.proofs.KeptSteps.{CameStep, Comes, KeptAfter, Nothing_told, Same, Version_told, came_step, kept_least, kept_step, put_again, tells}
use Rattle.laws_progress.proofs.LastBoots.{last_boot}
use Rattle.laws_progress.proofs.Places.{get_last}
use Rattle.laws_progress.proofs.Polls.{none_polled, one_polled}
use Rattle.laws_progress.proofs.SpreadFacts.{IsTold, Sees, Spreading}
use Rattle.laws_progress.proofs.States.{seen_at}
use Rattle.laws_progress.proofs.Sweeps as sweeps
use Rattle.laws_progress.proofs.UpFacts.{is_node_of, read}
use Rattle.laws_progress.proofs.UpFrames.{Frame, Lasts, UpHop, boot_of, boot_stays, frame, has_link, head_at, head_is, hop_of, known, of_link, pair, turned}
use Rattle.laws_progress.proofs.UpStates.{Interval, StepOf, Took, UpNext, UpState, took}
use Rattle.laws_progress.proofs.VersionFrames.{Written, behind_is, document_taken, says_at, written_at}
use Rattle.laws_progress.proofs.VersionRuns.{heard_there, kept_below}

-- ---- what is seen

-- the node knows the neighbour's present life, and keeps a version of it
abbrev pub knows_version : Setting → World → NodeId → NodeState → Bool
knows_version x w v n = ((link_in n v).peer_boot == last_boot x w v) && nat_lt 0 (version_of n v)

-- versions in place of boots. There is one row, which is always in turn
abbrev pub sees_versions : (c : Interval) → Sees (UpState c)
sees_versions c = record {
  held = λ w u o. read 0 (λ n. n.live.version) w.state.world u;
  knows = λ w u v. read false (knows_version c.x w.state.world v) w.state.world u;
  polled = λ w u v. polls w.state.events u v;
  rows = λ w u. true ∷ [];
  last = λ w u v. Some 0;
}

both_true : (a b : Bool) → a ≡ true → b ≡ true → (a && b) ≡ true
both_true a b one two = rw (one, two) refl

module _ (c : Interval) (documents : DocumentsBegin c.x.topology.format c.arts c.x.signature_len) (may : may_change c.x ≡ true) where
  abbrev arts : Arts
  arts = c.arts

  abbrev x : Setting
  x = c.x

  abbrev W : Type 0
  W = UpState c

  abbrev at : Sees W
  at = sees_versions c

  abbrev Next : W → Event → W → Type 0
  Next w e y = UpNext c w e y

  -- ---- one event

  can_change : (w y : W) (e : Event) (u : NodeId) (t : Took arts x w.state.world y.state.world e u) → changes t.node.fixed ≡ true
  can_change w y e u t =
      ap changes ((readied_parts x w.state.world t.before t.node t.readied).1 ∙ (is_node_of c w u t.before t.there).fixed) ∙ may

  heard_row : (w y : W) (e : Event) (u v : NodeId) → UpHop c u v → (t : Took arts x w.state.world y.state.world e u)
      → list_any (is_heard_of v) t.node.heard ≡ true
  heard_row w y e u v hop t =
      readied_keeps x w.state.world t.before t.node (λ q. list_any (is_heard_of v) q.heard ≡ true) (λ upto h. h) t.readied
      (heard_there arts x w.state.events w.state.journal w.state.world c.fits c.reads.carries w.state.run u v hop.joined t.before t.there)

  -- the version of a node never falls
  pub version_rises : (w y : W) (e : Event) (u o : NodeId) → c.Up u → Next w e y → at.held w u o ≤ at.held y u o
  version_rises w y e u o up next =
      let t = took c w y e next u up in
      let first = ap (seen_at 0 (λ m. m.live.version)) t.there in
      let last = ap (seen_at 0 (λ m. m.live.version)) t.left in
      let ready_is = readied_keeps x w.state.world t.before t.node (λ q. q.live.version ≡ t.before.live.version) (λ upto h. h) t.readied refl in
      let size : IsSized t.node =
      readied_keeps x w.state.world t.before t.node IsSized (λ upto h. record { weights = h.weights; me = h.me; on_paths = h.on_paths }) t.readied
      (sized (sizes_at x (Good arts x w.state.events w.state.journal) u) t.before (is_node_of c w u t.before t.there).holds) in
      elim t.how [
        | inl still ↦ let same = ap (λ (m : NodeState). m.live.version) still.0 in omega (arith, first, last, ready_is, same)
        | inr s ↦ let up = (versions_rise arts t.node s.input s.output t.after size s.step).version in omega (arith, first, last, ready_is, up)
      ]

  -- nor what is kept of a neighbour whose present life is known
  kept_rises : (w y : W) (e : Event) (u v : NodeId) → UpHop c u v → Next w e y → (t : Took arts x w.state.world y.state.world e u)
      → (link_in t.before v).peer_boot ≡ last_boot x w.state.world v → version_of t.before v ≤ version_of t.after v
  kept_rises w y e u v hop next t known_is =
      let version = readied_keeps x w.state.world t.before t.node (λ q. version_of q v ≡ version_of t.before v) (λ upto h. h) t.readied refl in
      elim t.how [
        | inl still ↦ let same = ap (λ (m : NodeState). version_of m v) still.0 in omega (arith, version, same)
        | inr s ↦
            let up = go s (kept_step arts x t.node s.input s.output t.after v (next_frame (ready x w.state.world e) e) s.entry.reply
            (has_link c w y e u v hop t) s.step s.journal.reply) in
            omega (arith, version, up)
      ]
    where
      go : (s : StepOf arts x w.state.world e u t.node t.after) → KeptAfter arts t.node s.input t.after v → version_of t.node v ≤ version_of t.after v
      go s (Same boot kept) = omega (arith, kept)
      go s (Comes bytes is link heard) = elim (tells arts t.node v bytes (can_change w y e u t)) [
        | Nothing_told stays told ↦ let kept = ap (λ (hs : List Heard). version_in hs v) (heard ∙ told) in omega (arith, kept)
        | Version_told tagged told ↦
            let kept : version_of t.after v ≡ arrivals.version_after arts t.node v bytes =
            ap (λ (hs : List Heard). version_in hs v) (heard ∙ told)
            ∙ put_again v (arrivals.version_after arts t.node v bytes) t.node.heard (heard_row w y e u v hop t) in
            let boot =
            readied_keeps x w.state.world t.before t.node (λ q. (link_in q v).peer_boot ≡ (link_in t.before v).peer_boot) (λ upto h. h) t.readied refl in
            let after = ap (λ (l : Link). l.peer_boot) link in
            let below = (of_link c y u v hop t.after t.left).below in
            let life = boot_stays c w y e next v hop.far in
            let most : (link_after arts t.node v bytes).peer_boot ≤ (link_in t.node v).peer_boot = omega (arith, boot, after, below, life, known_is) in
            let flat : rises arts t.node v bytes ≡ false = grind (arith, nat_tests, most) in
            let least =
            kept_least t.node.fixed.epochs (rises arts t.node v bytes) ((arts.head bytes).boot == (link_in t.node v).peer_boot) (version_of t.node v)
            (arts.head bytes).topology (λ epochs. flat) in
            omega (arith, kept, least)
      ]

  known_of : (w : W) (u v : NodeId) (n : NodeState) → node_in w.state.world.nodes u ≡ Some n → at.knows w u v ≡ true
      → ((link_in n v).peer_boot ≡ last_boot x w.state.world v) × (1 ≤ version_of n v)
  known_of w u v n there knows =
      let is : knows_version x w.state.world v n ≡ true = sym (ap (seen_at false (knows_version x w.state.world v)) there) ∙ knows in
      let parts = both ((link_in n v).peer_boot == last_boot x w.state.world v) (nat_lt 0 (version_of n v)) is in
      let some = parts.1 in
      (eqb-true _ _ parts.0, grind (arith, nat_tests, some))

  known_is : (w : W) (u v : NodeId) (n : NodeState) → node_in w.state.world.nodes u ≡ Some n → (link_in n v).peer_boot ≡ last_boot x w.state.world v
      → 1 ≤ version_of n v → at.knows w u v ≡ true
  known_is w u v n there boot some =
      ap (seen_at false (knows_version x w.state.world v)) there
      ∙ both_true ((link_in n v).peer_boot == last_boot x w.state.world v) (nat_lt 0 (version_of n v)) (eq-eqb _ _ boot) (grind (arith, nat_tests, some))

  -- what is known stays known
  pub known_on : (w y : W) (e : Event) (u v : NodeId) → UpHop c u v → Next w e y → at.knows w u v ≡ true → at.knows y u v ≡ true
  known_on w y e u v hop next knows =
      let t = took c w y e next u hop.near in
      let was = known_of w u v t.before t.there knows in
      let some = was.1 in
      let boot : ((link_in t.after v).peer_boot == last_boot x y.state.world v) ≡ true =
      sym (ap (seen_at false (λ m. (link_in m v).peer_boot == last_boot x y.state.world v)) t.left)
      ∙ known c w y e u v hop next
      (ap (seen_at false (λ m. (link_in m v).peer_boot == last_boot x w.state.world v)) t.there ∙ eq-eqb _ _ was.0) in
      let up = kept_rises w y e u v hop next t was.0 in
      known_is y u v t.after t.left (eqb-true _ _ boot) (omega (arith, some, up))

  -- ---- one frame of u for v

  module _ (f : Frame c) where
    abbrev w : W
    w = f.state

    abbrev u : NodeId
    u = f.from

    abbrev v : NodeId
    v = f.to

    abbrev n : NodeState
    n = f.maker

    abbrev back : UpHop c v u
    back = turned c u v f.hop

    -- v knows of u, and where u knew that v is behind, v runs under u's version at least
    pub record Done (y : W) : Type 0 where
      pub learned : at.knows y v u ≡ true
      pub taken : at.knows w u v ≡ true → version_of n v < n.live.version → n.live.version ≤ at.held y v v

    done_on : (y z : W) (e : Event) → Next y e z → Done y → Done z
    done_on y z e next d = record {
      learned = known_on y z e v u back next d.learned;
      taken = λ knows less.
          let was = d.taken knows less in
          let up = version_rises y z e v v f.hop.far next in
          omega (arith, was, up);
    }

    written_is : Written arts x u v n (frame c f)
    written_is =
        written_at arts x w.state.events w.state.journal w.state.world c.fits c.reads documents w.state.run u v f.hop.joined n f.there

    some_version : 1 ≤ n.live.version
    some_version =
        has_version arts x w.state.events n.live.version n.live.weights c.fits
        (versions_are_published arts x w.state.events w.state.journal w.state.world c.fits c.reads.carries w.state.run u n f.there)

    comes : (y z : W) (e : Event) → Next y e z → Lasts c f y → Lasts c f z → (t : Took arts x y.state.world z.state.world e v)
        → (s : StepOf arts x y.state.world e v t.node t.after) → s.input ≡ Datagram u (frame c f) → is_above (pair c f) (link_in t.before u).seen ≡ true
        → Done z
    comes y z e next l on t s input waits =
        go (says_at arts x y.state.events y.state.journal y.state.world c.fits c.reads y.state.run u v (hop_of c u v f.hop) t.before t.node t.there t.readied n
        (frame c f) written_is)
      where
        bytes : List ℕ
        bytes = frame c f

        k : Link
        k = link_in t.node u

        step : NodeStep arts t.node (Datagram u (frame c f)) s.output t.after
        step = subst (λ i. NodeStep arts t.node i s.output t.after) input s.step

        came : CameStep arts t.node u (frame c f) t.after
        came = came_step arts x t.node u (frame c f) s.output t.after (next_frame (ready x y.state.world e) e) s.entry.reply step s.journal.reply

        link : link_in t.after u ≡ link_after arts t.node u (frame c f)
        link = came.link (has_link c y z e v u back t)

        left : (a : LinkAnswer) → link_says arts (link_in t.node u) (frame c f) ≡ a
            → link_in t.after u ≡ after_answer (link_in t.node u) (arts.head (frame c f)) a
        left a is = link ∙ ap (link_with arts (link_in t.node u) (frame c f)) written_is.opens ∙ ap (after_answer (link_in t.node u) (arts.head (frame c f))) is

        -- the boot that was known before
        old_boot : (link_in t.node u).peer_boot ≤ n.fixed.boot
        old_boot =
            let below = (of_link c y v u back t.before t.there).below in
            let life = boot_stays c y z e next u f.hop.near in
            let near = on.near in
            let ready_is =
            readied_keeps x y.state.world t.before t.node (λ q. (link_in q u).peer_boot ≡ (link_in t.before u).peer_boot) (λ upto h. h) t.readied refl in
            omega (arith, below, life, near, ready_is)

        -- it is heard, whatever else becomes of it
        learns : (link_in t.after u).peer_boot ≡ n.fixed.boot → IsTrue (arrivals.is_tagged (link_says arts (link_in t.node u) (frame c f)))
            → at.knows z v u ≡ true
        learns boot tagged =
            let head = (head_at c f).boot_is in
            let after = ap (λ (q : Link). q.peer_boot) link in
            let least = versions_are_heard arts t.node u (frame c f) (can_change y z e v t) (record {
              called = came.free;
              opened = written_is.opens;
              tagged = tagged;
              lately = λ epochs. elim (cases_lt (link_in t.node u).peer_boot (arts.head (frame c f)).boot) [
                | inl less ↦ inl (lt-ltb _ _ (omega (arith, less, after, boot, head)))
                | inr least ↦ let low = old_boot in inr (omega (arith, least, low, head))
              ];
              row = heard_row y z e v u back t;
            }) in
            let version = written_is.version in
            let some = some_version in
            let is = ap (λ (q : NodeState). version_of q u) step.1 in
            known_is z v u t.after t.left (boot ∙ sym on.near) (omega (arith, least, version, some, is))

        go : Answers (link_in t.node u) (arts.head (frame c f)) (is_right arts (link_in t.node u).key (frame c f)) t.node.fixed.boot → Done z
        go (Learn off a) =
            let boot = ap (λ (q : Link). q.peer_boot) (left _ a) in
            let head = (head_at c f).boot_is in
            let low = old_boot in
            record {
              learned = learns (omega (arith, boot, head, low)) (ap arrivals.is_tagged a);
              taken = λ knows less.
                  let was = (known_of w u v n f.there knows).0 in
                  let echo = written_is.echo in
                  let mine = boot_of c y v t.before t.there in
                  let fixed = ap (λ (g : Fixed). g.boot) (readied_parts x y.state.world t.before t.node t.readied).1 in
                  let stays = boot_stays c y z e next v f.hop.far in
                  let far = on.far in
                  let echoes : ((arts.head (frame c f)).echo == t.node.fixed.boot) ≡ true = eq-eqb _ _ (omega (arith, was, echo, mine, fixed, stays, far)) in
                  absurd (let wrong : true ≡ false = sym echoes ∙ off in cc);
            }
        go (Late echo below a) =
            let ready_is =
            readied_keeps x y.state.world t.before t.node (λ q. (link_in q u).seen ≡ (link_in t.before u).seen) (λ upto same. same) t.readied refl in
            absurd (let wrong : true ≡ false = sym waits ∙ sym (ap (is_above (pair c f)) ready_is)
            ∙ ap (λ q. is_above q (link_in t.node u).seen) (sym (head_is c f)) ∙ below in cc)
        go (Take echo above a) =
            let boot = ap (λ (q : Link). q.peer_boot) (left _ a) in
            record {
              learned = learns (boot ∙ (head_at c f).boot_is) (ap arrivals.is_tagged a);
              taken = λ knows less.
                  let some = (known_of w u v n f.there knows).1 in
                  let mine = ap changes (is_node_of c w u n f.there).fixed ∙ may in
                  let behind = behind_is n v mine some less in
                  let place = length (frames_in w.state.world.directions u v) in
                  let placed : slice_get (frames_in y.state.world.directions u v) place ≡ Some (Some (frame c f)) =
                  ap (λ (gs : List (Option (List ℕ))). slice_get gs place) l.made ∙ get_last (frames_in w.state.world.directions u v) (Some (frame c f)) in
                  let most =
                  document_taken arts x w.state.events w.state.journal w.state.world y.state.events y.state.journal y.state.world c.fits c.reads may w.state.run
                  y.state.run u v n f.there place placed t.before t.node t.there t.readied behind came.free written_is.opens (written_is.begins behind) a in
                  let is = ap (λ (q : NodeState). q.live.version) step.1 in
                  let last = ap (seen_at 0 (λ m. m.live.version)) t.left in
                  omega (arith, most, is, last);
            }

    abbrev claim : Claim c f
    claim = record { Done = Done; done_on = done_on; comes = comes }

  -- ---- it is heard

  pub told : (w y z r : W) (e p : Event) (es : List Event) (a b : NodeId) → UpHop c a b → Next w e y → is_poll a b e ≡ true → Goes W Next y es z
      → AreNoPolls a b es → Next z p r → is_pass a b (polls y.state.events a b) p ≡ true → IsTold W at (λ o. 0) w r a b
  told w y z r e p es a b hop step poll g none next is =
      let n = w.runs a hop.near in
      let m = w.runs b hop.far in
      let f : Frame c = record { state = w; from = a; to = b; hop = hop; maker = n.0; there = n.1 } in
      let done = comes_true c f (claim f) y z r e p es step poll g none next is in
      let first = ap (seen_at 0 (λ q. q.live.version)) n.1 in
      record {
        learned = done.learned;
        told = λ o knows carried. elim (cases_lt (version_of n.0 b) n.0.live.version) [
          | inl less ↦ let up = done.taken knows less in omega (arith, first, up)
          | inr least ↦
              let known = (known_of w a b n.0 n.1 knows).0 in
              let kept =
              kept_below arts x w.state.events w.state.journal w.state.world c.fits c.reads.carries c.reads.heads may w.state.run a b (hop_of c a b hop)
              n.0 m.0 n.1 m.1 (λ epochs. known ∙ sym (boot_of c w b m.0 m.1)) in
              let its = ap (seen_at 0 (λ q. q.live.version)) m.1 in
              let one = version_rises w y e b o hop.far step in
              let two = sweeps.rises W Next (λ s. at.held s b o) (λ s s' d d_next. version_rises s s' d b o hop.far d_next) es y z g in
              let three = version_rises z r p b o hop.far next in
              omega (arith, first, least, kept, its, one, two, three)
        ];
      }

  -- ---- all of it

  abbrev pub version_spreading : Spreading
  version_spreading = record {
    State = W;
    Next = Next;
    Up = c.Up;
    Hop = UpHop c;
    at = at;
    place = λ o. 0;
    all = true ∷ [];
    is_up = λ u v hop. hop.near;
    held_rises = version_rises;
    known = known_on;
    one_polled = λ w y e u v hop next is. one_polled arts x c.all w.state y.state e u v next.follows is;
    none_polled = λ w y e u v hop next off. none_polled arts x c.all w.state y.state e u v next.follows off;
    carries = λ w y e u v row hop next is knows carried. carried;
    carries_none = λ w y e u v hop next off. refl;
    row_there = λ w u o up some. refl;
    within = λ w u up row on. on;
    told = told;
  }
