-- The law: positions, lists and views are in order in every state, and each active flow is counted.
use Rattle.laws_progress.proofs.Versions.{UnderFirst, first_open, gone_at, not_ended, under_first}
use Rattle.laws_node.specs.Withdrawals.{removed_now}
use Rattle.sp_rules.specs.Rel.{is_one_of}
use Rattle.sp_rules.specs.Topologies.{weights_in}
use Rattle.laws_node.proofs.FreshLemmas.{one}
use Rattle.laws_progress.proofs.Always.{always}
use Rattle.laws_progress.proofs.Changes.{both_held, life_of}
use Rattle.laws_progress.proofs.KnownRuns.{sent_within}
use Rattle.laws_progress.proofs.LastBoots.{held_none, running_boot, without_epochs}
use Rattle.laws_progress.proofs.MakesNow.{seen_flow, seen_view}
use Rattle.laws_progress.proofs.Polls.{both_ways}
use Rattle.laws_progress.proofs.States.{Era, IsBetween, IsEra, IsRight, State, Watched, has_met, in_era, last_state, seen_at}
use Rattle.laws_progress.proofs.Watching.{AllUp, watch, watch_is}
use Rattle.laws_runs.proofs.There.{is_there}
use Rattle.sp_graph.specs.Certificates.{through}
use Rattle.sp_rules.specs.Node.{link_in, NodeState}
use Rattle.sp_rules.specs.Rel.{View}
use Rattle.sp_runs.specs.Runs.{polls, Clean, is_hop}
use Rattle.std.proofs.Common.{◌-◌, ◌==◌, ◌≡◌, ◌≤◌, ◌||◌, Bool, true, false, not, List, [], ◌∷◌, map, Some, refl, ap, arith, count_by, sym, ◌∙◌}
use Rattle.std.specs.Prelude.{IsTrue}
use Rattle.std.proofs.lemmas.Bool.{ne_eqb}
use Rattle.std.proofs.lemmas.Option.{slice_get-get_or}
use Rattle.sp_base.specs.Position.{IsPosition}
use Rattle.sp_base.specs.declared.id.Flow.{Flow}
use Rattle.sp_base.specs.declared.id.NodeId.{NodeId}
use Rattle.sp_rules.specs.Arts.{Arts}
use Rattle.sp_rules.specs.Flow.{FlowState}
use Rattle.sp_rules.specs.Parts.{nodes_of}
use Rattle.sp_rules.proofs.FlowJudged.{found_ends}
use Rattle.laws_node.proofs.Boot.{nodes_hold}
use Rattle.laws_node.proofs.Reliable.{in_range, read}
use Rattle.sp_runs.specs.Settings.{Setting, StaysUp, is_correct}
use Rattle.sp_runs.specs.Worlds.{World, node_in}
use Rattle.sp_journal.specs.declared.entry.Entry.{Entry}
use Rattle.sp_schedule_events.specs.declared.event.Event.{Event}
use Rattle.laws_runs.specs.Flows.{FlowClaims, flow_at, has_ended}
use Rattle.laws_runs.specs.Premises.{ComesThrough}
use Rattle.laws_runs.specs.Signs.{Good, sizes_at}
use Rattle.laws_runs.proofs.FlowPlain.{flows_are_kept}
use Rattle.laws_runs.proofs.Lists.{both}
use Rattle.laws_runs.proofs.Signed.{signs}
use Rattle.laws_runs.proofs.Tables.{same_node}
use Rattle.laws_progress.specs.Positions.{TopologyStays}
use Rattle.laws_progress.specs.Positions.{PositionClaims, PositionsAreInOrder, view_at}
use Rattle.laws_progress.proofs.Counting.{asked_at, few_at}
use Rattle.laws_progress.proofs.Places.{counts_one}
use Rattle.laws_progress.proofs.Service.{number_on}
use Rattle.sp_rules.specs.Parts.{flows_of}
use Rattle.sp_rules.specs.declared.kflow.FlowKind.{FlowKind}
use Rattle.laws_node.proofs.FlowKinds.{flows_hold}

-- ---- counts

rows_on : (fs : List FlowState) → count_by (λ f. f.active) fs ≡ number_on (map (λ f. f.active) fs)
rows_on [] = refl
rows_on (f ∷ fs) = omega (arith, counts_one (λ (g : FlowState). g.active) f fs, rows_on fs)

counted_is : (asked correct : Bool) → (correct ≡ true → asked ≡ true) → (asked || not correct) ≡ true
counted_is true correct h = refl
counted_is false true h = h refl
counted_is false false h = refl

-- ---- one flow

plain_met : (x : Setting) (t : Bool) → x.epochs ≡ false → (not x.epochs || t) ≡ true
plain_met x t off = rw off refl

module _ (kind : FlowKind) (arts : Arts) (x : Setting) (es : List Event) (js : List Entry) (w : World) (fits : StaysUp arts x)
    (through : ComesThrough x.topology.format arts x.signature_len) (one : 1 ≤ x.buffer) (run : Clean arts x es js w) (stays : TopologyStays es) where
  first_at : (u : NodeId) (n : NodeState) → node_in w.nodes u ≡ Some n → UnderFirst x n
  first_at u n at = under_first arts x es js w fits.fits through.carries run stays u n at

  correct_at : (u : NodeId) (n : NodeState) → node_in w.nodes u ≡ Some n → is_correct x u ≡ true
  correct_at u n at = ((signs arts x es js w fits.fits through.carries run).nodes u n at).correct

  module _ (s d : NodeId) (from : IsTrue (is_correct x s)) (to : IsTrue (is_correct x d)) (different : s ≡ d → ⊥) where
    abbrev flow : Flow
    flow = record { src = s; dst = d }

    claims : FlowClaims kind arts x s d es js w
    claims = flows_are_kept kind arts x es js w fits through.carries run s d (both _ _ from).0 to different

    -- at another node than d each number after the base has its message
    position_at : (u : NodeId) (n : NodeState) → node_in w.nodes u ≡ Some n → (u ≡ d → ⊥) → IsPosition (flow_at kind n s d).at
    position_at u n at other =
        let k = sizes_at x (Good arts x es js) u in
        let nodes = nodes_hold x.topology.format x.topology.height 0 x.topology.nodes fits.fits.topology.ranges.nodes in
        let rel = flows_hold kind k n.parts ((signs arts x es js w fits.fits through.carries run).nodes u n at).holds.parts in
        let row = read kind k n.signer.index (flows_of kind n.parts).flows flow (in_range x.topology.format (nodes_of x.topology) s nodes (both _ _ from).0)
        (in_range x.topology.format (nodes_of x.topology) d nodes (both _ _ to).0) rel.flows in
        let end : (flow_at kind n s d).dst ≡ d = ap (λ (f : Flow). f.dst) (found_ends (flows_of kind n.parts).flows flow) in
        row.standing.position (ne_eqb _ _ (λ same. other (sym (same_node _ _ same) ∙ end)))

    -- every correct node is watched in its only life
    abbrev era : Era
    era = record {
      kind = kind;
      low = 0;
      high = 0;
      over = λ edge. true;
      on = is_correct x;
      life = λ u. 1;
      version = x.topology.version;
      weights = weights_in x.topology.edges;
      sboot = 0;
      dboot = 0;
      early = λ u v. polls es u v - seen_at 0 (λ q. (link_in q v).sent) (node_in w.nodes u);
    }

    right : IsRight x (record { src = s; dst = d })
    right = record { from = from; to = to; different = different }

    is_era : IsEra x (record { src = s; dst = d }) era
    is_era = record {
      right = right;
      correct = λ v on. on;
      source = from;
      end = to;
      some = λ v on. omega arith;
      taken = λ on. absurd (let f : false ≡ true = sym fits.plain ∙ on in cc);
      only = λ off. (refl, refl);
      lone = λ off v on. refl;
    }

    up_now : AllUp arts x es era (record { src = s; dst = d }) (last_state arts x es js w run)
    up_now u on =
        let n = is_there arts x es js w fits run u on in
        let none = held_none arts x es js w fits.fits through.carries run fits.plain u n.0 n.1 in
        record {
          node = n.0;
          there = n.1;
          boot = running_boot arts x es js w fits.fits through.carries run u n.0 n.1 ∙ without_epochs x w u fits.plain;
          held = both_held n.0 s d 0 0 (none s) (none d);
          version = let same = (first_at u n.0 n.1).0 in omega (arith, same);
          weights = λ same. (first_at u n.0 n.1).1;
        }

    most : (u : NodeId) → is_correct x u ≡ true → (n : NodeState) → node_in w.nodes u ≡ Some n → n.live.version ≤ x.topology.version
    most u on n at = let same = (first_at u n at).0 in omega (arith, same)

    joined : (u v : NodeId) → is_correct x u ≡ true → is_correct x v ≡ true → (n : NodeState) → node_in w.nodes u ≡ Some n → is_one_of (removed_now n) v ≡ false
    joined u v on v_on n at =
        ap (λ gone. is_one_of gone v)
        (gone_at arts x fits.fits (Good arts x es js) u n ((signs arts x es js w fits.fits through.carries run).nodes u n at) (first_at u n at))

    early_is : (u v : NodeId) → is_correct x u ≡ true → (n : NodeState) → node_in w.nodes u ≡ Some n
        → polls es u v - seen_at 0 (λ (q : NodeState). (link_in q v).sent) (node_in w.nodes u) ≡ polls es u v - (link_in n v).sent
    early_is u v on n at = ap (λ o. polls es u v - seen_at 0 (λ (q : NodeState). (link_in q v).sent) o) at

    watched : Watched arts x es era
    watched =
        watch arts x es era (record { src = s; dst = d }) fits.fits through.carries is_era through.heads (last_state arts x es js w run) up_now most
        joined early_is
        (λ u v on joined n at. sent_within arts x es js w fits.fits through.carries run u v joined n at)

    watched_at : watched.at ≡ last_state arts x es js w run
    unfolding watched
    watched_at =
        watch_is arts x es era (record { src = s; dst = d }) fits.fits through.carries is_era through.heads (last_state arts x es js w run) up_now most
        joined early_is
        (λ u v on joined n at. sent_within arts x es js w fits.fits through.carries run u v joined n at)

    hop : (u v : NodeId) (n m : NodeState) → IsTrue (is_hop x u v) → node_in w.nodes u ≡ Some n → node_in w.nodes v ≡ Some m
        → ((view_at kind n v s d).base ≤ (flow_at kind m s d).at.base) × ((view_at kind n v s d).have ≤ (flow_at kind m s d).at.have)
    hop u v n m joined at there =
        let flow : Flow = record { src = s; dst = d } in
        let u_on = correct_at u n at in
        let v_on = correct_at v m there in
        let back : IsBetween x era v u = record {
          hop = both_ways x u v (record { first = u_on; second = v_on; joined = joined });
          first = v_on;
          second = u_on;
          open_edge =
              first_open x fits.fits v u (both_ways x u v (record { first = u_on; second = v_on; joined = joined })).joined;
          may = refl;
        } in
        let h = always arts x es era flow fits.fits through is_era watched v u back in
        let world = ap (λ (z : State arts x es). z.world) watched_at in
        let at_u : node_in watched.at.world.nodes u ≡ Some n = ap (λ (z : World). node_in z.nodes u) world ∙ at in
        let at_v : node_in watched.at.world.nodes v ≡ Some m = ap (λ (z : World). node_in z.nodes v) world ∙ there in
        let met : has_met x era v n ≡ true = plain_met x ((link_in n v).peer_boot == 1) fits.plain in
        let view = seen_view arts x es era flow watched u v n at_u (in_it u n u_on at) met in
        let stands = seen_flow arts x es era flow watched v m at_v (in_it v m v_on there) in
        let view_base = ap (λ (z : View). z.base) view in
        let view_have = ap (λ (z : View). z.have) view in
        let its_base = ap (λ (f : FlowState). f.at.base) stands in
        let its_have = ap (λ (f : FlowState). f.at.have) stands in
        (let b = h.view_base in omega (arith, b, view_base, its_base), let b = h.view_have in omega (arith, b, view_have, its_have))
      where
        in_it : (u : NodeId) (n : NodeState) → is_correct x u ≡ true → node_in w.nodes u ≡ Some n → in_era era (record { src = s; dst = d }) u n ≡ true
        in_it u n on at =
            let boot : n.fixed.boot ≡ 1 = running_boot arts x es js w fits.fits through.carries run u n at ∙ without_epochs x w u fits.plain in
            let none = held_none arts x es js w fits.fits through.carries run fits.plain u n at in
            let life = life_of era u n on boot in
            let held = both_held n s d 0 0 (none s) (none d) in
            rw (life, held) refl

    goes_on : (u : NodeId) (n : NodeState) → node_in w.nodes u ≡ Some n → has_ended kind n s d ≡ false
    goes_on u n at = not_ended arts x es js w fits.fits through.carries run stays u n at kind s d

    positions : PositionClaims kind arts x s d es js w
    positions = record {
      base = λ u n end at there. let low = claims.base u n at in let top = claims.base_at_end end there (goes_on d end there) in omega (arith, low, top);
      base_at_end = λ end there.
          let acked = claims.base_at_end end there (goes_on d end there) in
          let most = claims.acknowledged in
          let has = claims.have_at_end end there (goes_on d end there) in
          omega (arith, acked, most, has);
      have = λ u n source at there.
          let low = claims.have from u n at in let top = claims.have_at_source from source there (goes_on s source there) in omega (arith, low, top);
      list = λ u n at other. (position_at u n at other, claims.lists from u n at);
      vouched = claims.vouched;
      view = hop;
    }

-- ---- the law

pub positions_are_in_order : PositionsAreInOrder
positions_are_in_order kind arts x es js w fits through one run stays = record {
  positions = λ s d from to different. positions kind arts x es js w fits through one run stays s d from to different;
  counted = λ u n at k none inside on.
      let there = slice_get-get_or (flows_of kind n.parts).flows k none inside in
      counted_is _ _ (asked_at kind arts x es js w fits.fits through.carries run u n at k _ there on);
  few = λ u n at.
      let most = few_at kind arts x es fits.fits through.carries (last_state arts x es js w run) u n at in
      let same = rows_on (flows_of kind n.parts).flows in
      omega (arith, most, same);
}
