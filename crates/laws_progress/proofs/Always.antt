-- What holds of the frames and views between two watched nodes in every state, whichever nodes start and stop.
use Rattle.laws_progress.proofs.Begins.{begins, fresh_start, lifted}
use Rattle.laws_progress.proofs.Changes.{Acted, Away, Born, Course, Rests, Steps, Unmoved, course, flow_later, lit, same_read, dark}
use Rattle.laws_progress.proofs.Hears.{hearing}
use Rattle.laws_progress.proofs.Meetings.{Met, SameHere}
use Rattle.laws_progress.proofs.HopLemmas.{hops_hold}
use Rattle.laws_progress.proofs.Hops.{HopHolds, IsDeaf, IsHearing, Lasting, SameView, Told}
use Rattle.laws_progress.proofs.KnownRuns.{first_none}
use Rattle.laws_progress.proofs.Made.{frames_count}
use Rattle.laws_progress.proofs.MakesNow.{makes}
use Rattle.laws_progress.proofs.Polls.{between_back, none_polled, one_polled}
use Rattle.laws_progress.proofs.Standing.{window}
use Rattle.laws_progress.proofs.States.{Era, IsBetween, IsEra, Leads, State, Watched, heard_of, in_era, in_life, sight, view_at, view_seen, numbered}
use Rattle.laws_progress.proofs.Takes.{heard_after, heard_before, told_is, views_after}
use Rattle.laws_progress.proofs.Wires.{told_stays, wires}
use Rattle.laws_runs.specs.Premises.{ComesThrough}
use Rattle.sp_base.specs.declared.id.Flow.{Flow}
use Rattle.sp_base.specs.declared.id.NodeId.{NodeId}
use Rattle.sp_rules.specs.Arts.{Arts}
use Rattle.sp_rules.specs.Node.{NodeState, link_in}
use Rattle.sp_rules.specs.Rel.{View, no_view, peer_in, view_in}
use Rattle.sp_runs.specs.Lives.{next_start}
use Rattle.sp_runs.specs.Settings.{Setting, SettingFits, node_at_start}
use Rattle.sp_runs.specs.Worlds.{frames_in, node_in}
use Rattle.sp_schedule_events.specs.declared.event.Event.{Event}
use Rattle.std.proofs.Common.{Bool, List, Some, ap, arith, cond, false, inl, inr, refl, sym, true, ℕ, ◌&&◌, ◌+◌, ◌==◌, ◌∙◌, ◌≡◌, ◌⊎◌}
use Rattle.std.proofs.lemmas.Bool.{ne_eqb}
use Rattle.std.proofs.lemmas.Option.{slice_get_within}
use Rattle.sp_rules.specs.Parts.{flows_of}

module _ (arts : Arts) (x : Setting) (all : List Event) (era : Era) (flow : Flow) (fits : SettingFits arts x)
    (reads : ComesThrough x.topology.format arts x.signature_len)
    (is_era : IsEra x flow era) where
  module _ (w y : Watched arts x all era) (e : Event) (u v : NodeId) where
    -- what is seen at v of a node that is there
    heard_at : (z : Watched arts x all era) (q : NodeState) → node_in z.at.world.nodes v ≡ Some q → (wires arts x all era flow).seen z v u ≡ heard_of era v u q
    heard_at z q at = lit 0 (heard_of era v u) (node_in z.at.world.nodes v) q at

    viewed_at : (z : Watched arts x all era) (q : NodeState) → node_in z.at.world.nodes v ≡ Some q
        → view_seen arts x all era flow z v u ≡ view_at x era flow v u q
    viewed_at z q at = lit (no_view flow) (view_at x era flow v u) (node_in z.at.world.nodes v) q at

    heard_off : (z : Watched arts x all era) → ((q : NodeState) → node_in z.at.world.nodes v ≡ Some q → in_life era v q ≡ false)
        → (wires arts x all era flow).seen z v u ≡ 0
    heard_off z off = dark 0 (heard_of era v u) (node_in z.at.world.nodes v) (λ q at. let t = off q at in rw t refl)

    view_dark : (z : Watched arts x all era) → ((q : NodeState) → node_in z.at.world.nodes v ≡ Some q → in_life era v q ≡ false)
        → view_seen arts x all era flow z v u ≡ no_view flow
    view_dark z off = dark (no_view flow) (view_at x era flow v u) (node_in z.at.world.nodes v) (λ q at. let t = off q at in rw t refl)

    deaf_of : (wires arts x all era flow).seen y v u ≡ (wires arts x all era flow).seen w v u
        → view_seen arts x all era flow y v u ≡ view_seen arts x all era flow w v u
        → IsDeaf (Watched arts x all era) (sight arts x all era flow) (wires arts x all era flow) w y u v
    deaf_of seen view = record { seen = seen; views = record { base = ap (λ (z : View). z.base) view; have = ap (λ (z : View). z.have) view } }

    -- nothing is seen of a life that isn't known
    unknown_heard : (q : NodeState) → ((link_in q u).peer_boot == era.life u) ≡ false → heard_of era v u q ≡ 0
    unknown_heard q off = rw off (either (in_life era v q) (numbered (era.early u v) (link_in q u).seen.1))
      where
        either : (t : Bool) (k : ℕ) → (let z : ℕ = cond (t && false) k 0 in z) ≡ 0
        either true k = refl
        either false k = refl

    unknown_view : (q : NodeState) → x.epochs ≡ true → ((link_in q u).peer_boot == era.life u) ≡ false → view_at x era flow v u q ≡ no_view flow
    unknown_view q epochs off = rw (epochs, off) (either (in_era era flow v q))
      where
        either : (t : Bool) → cond (t && false) (view_in (peer_in (flows_of era.kind q.parts).peers u).views flow) (no_view flow) ≡ no_view flow
        either true = refl
        either false = refl

    -- a node that starts heard nothing
    born_off : (epochs : x.epochs ≡ true) → era.on u ≡ true → ((link_in (node_at_start arts x v (next_start x w.at.world v)) u).peer_boot == era.life u) ≡ false
    born_off epochs on =
        let boot : (link_in (node_at_start arts x v (next_start x w.at.world v)) u).peer_boot ≡ 0 = first_none arts x v u w.at.world epochs in
        let some = is_era.some u on in
        ne_eqb _ _ (λ same. omega (arith, same, boot, some))

    pub hearing_of : (hop : IsBetween x era u v) → (a : Acted arts x all era w y e v) → (first : in_life era v a.node ≡ true)
        → (second : in_life era v a.after ≡ true)
        → (k : ℕ) → Met arts x all era flow w u v a.node a.after k
        → IsHearing (Watched arts x all era) (sight arts x all era flow) (wires arts x all era flow) w y u v (k + 1)
    hearing_of hop a first second k met =
        let it = met.it in
        let node_same = same_read x w.at.world a.before a.node (heard_of era v u) (λ upto. refl) a.readied in
        let was = heard_at w a.before a.there in
        let is = heard_at y a.after a.left in
        let view_is = viewed_at y a.after a.left in
        let before = heard_before arts x all era flow fits reads is_era w y e u v hop a first second k it in
        let after = heard_after arts x all era flow fits reads is_era w y e u v hop a first second k it in
        let within = slice_get_within (frames_in w.at.world.directions u v) k (Some it.bytes) it.arrived.there in
        let count = frames_count arts x w.at.events w.at.journal w.at.world w.at.run u v in
        record {
          after = omega (arith, was, node_same, before);
          made = omega (arith, count, within);
          seen = is ∙ after;
          views = elim met.left [
            | inr over ↦ inl (stay over.view)
            | inl handled ↦
                let told = told_is arts x all era flow fits reads is_era w y e u v hop a first second k it handled in
                elim (views_after arts x all era flow fits reads is_era w y e u v hop a first second k it handled) [
                  | inl same ↦ inl (stay same)
                  | inr got ↦ inr (
                    ap (λ (g : Told). g.mine) told ∙ got.0,
                    ap (λ (z : View). z.base) view_is ∙ got.1 ∙ ap (λ (g : Told). g.base) (sym told),
                    ap (λ (z : View). z.have) view_is ∙ got.2 ∙ ap (λ (g : Told). g.have) (sym told),
                  )
                ]
          ];
        }
      where
        stay : view_at x era flow v u a.after ≡ view_at x era flow v u a.node → SameView (Watched arts x all era) (sight arts x all era flow) w y u v
        stay same =
            let view_same = same_read x w.at.world a.before a.node (view_at x era flow v u) (λ upto. refl) a.readied in
            let all_same : view_seen arts x all era flow y v u ≡ view_seen arts x all era flow w v u =
            viewed_at y a.after a.left ∙ same ∙ view_same ∙ sym (viewed_at w a.before a.there) in
            record { base = ap (λ (z : View). z.base) all_same; have = ap (λ (z : View). z.have) all_same }

    pub deaf_here : (a : Acted arts x all era w y e v) → SameHere x era flow u v a.node a.after
        → IsDeaf (Watched arts x all era) (sight arts x all era flow) (wires arts x all era flow) w y u v
    deaf_here a same =
        let node_same = same_read x w.at.world a.before a.node (heard_of era v u) (λ upto. refl) a.readied in
        let view_same = same_read x w.at.world a.before a.node (view_at x era flow v u) (λ upto. refl) a.readied in
        deaf_of (heard_at y a.after a.left ∙ same.seen ∙ node_same ∙ sym (heard_at w a.before a.there))
        (viewed_at y a.after a.left ∙ same.view ∙ view_same ∙ sym (viewed_at w a.before a.there))

    pub deaf_rest : (q : Unmoved arts x all era w y e v) → IsDeaf (Watched arts x all era) (sight arts x all era flow) (wires arts x all era flow) w y u v
    deaf_rest q =
        let node_same = same_read x w.at.world q.before q.now (heard_of era v u) (λ upto. refl) q.readied in
        let view_same = same_read x w.at.world q.before q.now (view_at x era flow v u) (λ upto. refl) q.readied in
        deaf_of (heard_at y q.now q.left ∙ node_same ∙ sym (heard_at w q.before q.there))
        (viewed_at y q.now q.left ∙ view_same ∙ sym (viewed_at w q.before q.there))

    hears_at : IsBetween x era u v → Course arts x all era w y e v
        → IsDeaf (Watched arts x all era) (sight arts x all era flow) (wires arts x all era flow) w y u v
        ⊎ ((k : ℕ) × IsHearing (Watched arts x all era) (sight arts x all era flow) (wires arts x all era flow) w y u v k)
    hears_at hop (Away before after) = inl (deaf_of (heard_off y after ∙ sym (heard_off w before)) (view_dark y after ∙ sym (view_dark w before)))
    hears_at hop (Born epochs before at) =
        let q = node_at_start arts x v (next_start x w.at.world v) in
        let off = born_off epochs hop.first in
        inl (deaf_of (heard_at y q at ∙ unknown_heard q off ∙ sym (heard_off w before))
        (viewed_at y q at ∙ unknown_view q epochs off ∙ sym (view_dark w before)))
    hears_at hop (Rests q first second) = inl (deaf_rest q)
    hears_at hop (Steps a first second) = elim (hearing arts x all era flow fits reads is_era w y e u v hop a first second) [
      | inl same ↦ inl (deaf_here a same)
      | inr it ↦ inr (it.0 + 1, hearing_of hop a first second it.0 it.1)
    ]

  pub lasting : Lasting (Watched arts x all era) (Leads arts x all era) (IsBetween x era) (sight arts x all era flow) (wires arts x all era flow) x.buffer
  lasting = record {
    both_ways = λ u v hop. between_back x era u v hop;
    base_rises = λ w y e u leads. (flow_later arts x all era fits reads.carries w y e flow is_era leads u).base;
    have_rises = λ w y e u leads. (flow_later arts x all era fits reads.carries w y e flow is_era leads u).have;
    one_polled = λ w y e u v hop leads is. one_polled arts x all w.at y.at e u v leads is;
    none_polled = λ w y e u v hop leads is. none_polled arts x all w.at y.at e u v leads is;
    frames_stay = λ w y e u v k hop leads low. told_stays arts x all era flow w y e u v k leads low;
    makes = λ w y e u v hop leads poll. makes arts x all era flow fits reads w y e u v hop leads poll;
    hears = λ w y e u v hop leads. hears_at w y e u v hop (course arts x all era fits reads.carries w y e leads v);
    window = λ w u. window arts x all era flow fits reads.carries w u;
    begins = λ w.
        let b = begins arts x all w.at in
        let up = lifted arts x all era fits reads.carries b.events b.first w.at b.goes w refl in (
          up.first,
          b.events,
          up.goes,
          λ u v hop. fresh_start arts x all era fits reads.carries flow up.first (ap (λ (s : State arts x all). s.events) up.is ∙ b.none)
              (ap (λ (s : State arts x all). s.world) up.is ∙ b.start) u v,
        );
  }

  pub always : (w : Watched arts x all era) (u v : NodeId) → IsBetween x era u v
      → HopHolds (Watched arts x all era) (sight arts x all era flow) (wires arts x all era flow) x.buffer w u v
  always w = hops_hold (Watched arts x all era) (Leads arts x all era) (IsBetween x era) (sight arts x all era flow) (wires arts x all era flow) x.buffer
      lasting w
