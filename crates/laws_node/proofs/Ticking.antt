-- What a tick keeps: the time goes on, and at most two acknowledgements are signed, one of each kind of flows.
use Rattle.std.proofs.Common.{◌≡◌, ◌<◌, ℕ, ◌+◌, ◌^◌, List, [], ◌∷◌, ◌++◌, Option, Some, None, refl, sym, ap, ◌∙◌}
use Rattle.std.proofs.Common.{append_assoc, arith}
use Rattle.sp_msg.specs.declared.body.Ack.{Ack}
use Rattle.sp_msg.specs.declared.body.Body.{Body}
use Rattle.sp_msg.specs.declared.effect.Effect.{Effect}
use Rattle.sp_msg.specs.declared.effect.Effect.TheVariants.{Signed}
use Rattle.sp_msg.specs.declared.refused.SendRefused.{SendRefused}
use Rattle.sp_rules.specs.Arts.{Arts}
use Rattle.sp_rules.specs.Node.{NodeState, signed_now, signed_once}
use Rattle.sp_rules.specs.Kflow.{ack_body}
use Rattle.sp_rules.specs.Parts.{flows_of, with_flows}
use Rattle.sp_rules.specs.Prio.{expired_effects}
use Rattle.sp_rules.specs.Lives.{held_boot}
use Rattle.sp_rules.specs.Rel.{settled}
use Rattle.sp_rules.specs.Sends.{signer_refusal}
use Rattle.sp_rules.specs.Steps.{Output, tick_output, Tick}
use Rattle.sp_rules.specs.Ticks.{ack_effects, after_plain, after_tick, at_time, due_now, second_refusal, settled_by, time_after}
use Rattle.sp_rules.specs.declared.kflow.FlowKind.{FlowKind}
use Rattle.sp_rules.specs.declared.kflow.FlowKind.TheVariants.{Plain, Paths}
use Rattle.laws_node.specs.Inputs.{ArtsFit}
use Rattle.laws_node.specs.Nodes.{NodeHolds}
use Rattle.laws_node.specs.Sizes.{Sizes, ids_after, numbers_after}
use Rattle.laws_node.specs.Asked.{OwnKeep, at_index, signatures}
use Rattle.laws_node.proofs.About.{due_now_about}
use Rattle.laws_node.proofs.AskedLemmas.{expired_unsigned, signatures_both}
use Rattle.laws_node.proofs.FlowKinds.{ack_empty, ack_signer, flows_hold, with_flows_hold}
use Rattle.laws_node.proofs.Own.{in_own_format, fits_at, free, left, own_fits}
use Rattle.laws_node.proofs.Priority.{expired_holds}
use Rattle.laws_node.proofs.Reliable.{dated_due, due_now_fits, settled_holds}
use Rattle.laws_node.proofs.FlowRows.{rel_more}
use Rattle.laws_node.proofs.Signing.{Owns, parts_signed, signed_once_holds}

-- ---- a tick

at_time_holds : (k : Sizes) (n : NodeState) (now : ℕ) → now < 2 ^ 64 → NodeHolds k n → NodeHolds k (at_time n now)
at_time_holds k n now small h = record {
  fixed = h.fixed;
  live = h.live;
  now = omega (arith, small, h.now);
  calls = h.calls;
  links = h.links;
  signer = h.signer;
  parts = record {
    weights = h.parts.weights;
    prio = expired_holds k (numbers_after n.calls) (ids_after n.calls n.signer.index) n.signer.index n.parts.prio (time_after n now) h.parts.prio;
    rel = h.parts.rel;
    kflow = h.parts.kflow;
    lives = h.parts.lives;
    origins = h.parts.origins;
  };
}

settled_keeps : (kind : FlowKind) (k : Sizes) (arts : Arts) (n : NodeState) (ack : Ack) → ArtsFit arts n.fixed n.signer
    → Owns k arts n (ack_body kind ack) → due_now kind n ≡ Some ack → signer_refusal n.signer ≡ None → NodeHolds k n
    → NodeHolds k (signed_once n (with_flows kind (settled (flows_of kind n.parts) (signed_now arts n (ack_body kind ack))) n.parts))
settled_keeps kind k arts n ack fits own_keeps is e h =
    let body = ack_body kind ack in
    let r = flows_of kind n.parts in
    let d = dated_due kind n ack is in
    let facts = due_now_fits kind k n ack is h.parts in
    let own = own_fits arts n k body fits h.fixed.signature_len
    (own_keeps (ack_signer kind ack ∙ facts.mine ∙ sym h.fixed.me) (in_own_format k n body h facts.fields) (due_now_about kind k n ack is h)
    (left n.signer h.signer e))
    facts.fields in
    record {
      fixed = h.fixed;
      live = h.live;
      now = h.now;
      calls = h.calls;
      links = h.links;
      signer = signed_once_holds n.signer (free n.signer h.signer e) h.signer;
      parts = with_flows_hold kind k (settled r (signed_now arts n body)) n.parts
          (rel_more kind k n.signer.index (n.signer.index + 1) _ (omega arith)
          (settled_holds kind k n.signer.index r d.raw (held_boot n.parts.lives d.raw.src) (held_boot n.parts.lives d.raw.dst)
          (signed_now arts n body) d.is_due (ap (ack_body kind) d.is) own (flows_hold kind k n.parts h.parts)))
          (parts_signed k n h);
    }

-- an acknowledgement that a tick signs, after these effects and before those, with this index
ack_own : (kind : FlowKind) (k : Sizes) (arts : Arts) (n : NodeState) (now : ℕ) (effects : List Effect) (index : ℕ) (ack : Ack) (before after : List Effect)
    → effects ≡ before ++ Signed (arts.spell (ack_body kind ack)) ∷ after → index ≡ n.signer.index + signatures before
    → OwnKeep arts k.keeps n (Tick now) effects → Owns k arts (at_index n index) (ack_body kind ack)
ack_own kind k arts n now effects index ack before after told place own mine fields about left =
    own index (ack_body kind ack) (record {
      mine = mine;
      fields = fields;
      about = about;
      payload = ack_empty kind ack;
      left = left;
      before = before;
      after = after;
      told = told;
      place = place;
    })

-- one of two acknowledgements: what it leaves is within the bounds
acknowledges : (kind : FlowKind) (k : Sizes) (arts : Arts) (n : NodeState) (o : Option Ack) (r : Option SendRefused) → due_now kind n ≡ o
    → signer_refusal n.signer ≡ r → ArtsFit arts n.fixed n.signer
    → ((ack : Ack) → o ≡ Some ack → r ≡ None → Owns k arts n (ack_body kind ack)) → NodeHolds k n → NodeHolds k (settled_by arts kind n o r)
acknowledges kind k arts n None r is e fits owns h = h
acknowledges kind k arts n (Some ack) (Some refusal) is e fits owns h = h
acknowledges kind k arts n (Some ack) None is e fits owns h = settled_keeps kind k arts n ack fits (owns ack refl refl) is e h

-- how far the signer comes where one is signed or not
pub signed_index : (arts : Arts) (kind : FlowKind) (n : NodeState) (o : Option Ack) (r : Option SendRefused)
    → (settled_by arts kind n o r).signer.index ≡ n.signer.index + signatures (ack_effects arts kind o r)
signed_index arts kind n None r = omega arith
signed_index arts kind n (Some ack) (Some refusal) = omega arith
signed_index arts kind n (Some ack) None = omega arith

-- the arts fit the node also then
pub settled_fits : (arts : Arts) (kind : FlowKind) (n : NodeState) (o : Option Ack) (r : Option SendRefused) → ArtsFit arts n.fixed n.signer
    → ArtsFit arts (settled_by arts kind n o r).fixed (settled_by arts kind n o r).signer
settled_fits arts kind n None r fits = fits
settled_fits arts kind n (Some ack) (Some refusal) fits = fits
settled_fits arts kind n (Some ack) None fits = fits_at arts n.fixed n.signer (n.signer.index + 1) fits

-- the acknowledgement of a plain flow changes nothing of what is due on paths
pub still_due : (arts : Arts) (n : NodeState) (o : Option Ack) (r : Option SendRefused) → due_now Paths (settled_by arts Plain n o r) ≡ due_now Paths n
still_due arts n None r = refl
still_due arts n (Some ack) (Some refusal) = refl
still_due arts n (Some ack) None = refl

-- the node that signs the second one is the first node at its index
at_its_index : (k : Sizes) (arts : Arts) (n : NodeState) (now : ℕ) (body : Body) (o : Option Ack) (r : Option SendRefused)
    → Owns k arts (at_index n (settled_by arts Plain (at_time n now) o r).signer.index) body → Owns k arts (settled_by arts Plain (at_time n now) o r) body
at_its_index k arts n now body None r own = own
at_its_index k arts n now body (Some first) (Some refusal) own = own
at_its_index k arts n now body (Some first) None own = own

-- what a tick tells before and after each acknowledgement
module _ (k : Sizes) (arts : Arts) (n : NodeState) (now : ℕ) (output : Output) (is : output ≡ tick_output arts n now)
    (own : OwnKeep arts k.keeps n (Tick now) output.effects) where
  abbrev expired : List Effect
  expired = expired_effects n.parts.prio (time_after n now)

  abbrev plain : List Effect
  plain = ack_effects arts Plain (due_now Plain n) (signer_refusal n.signer)

  abbrev on_paths : List Effect
  on_paths = ack_effects arts Paths (due_now Paths n) (second_refusal arts n now)

  -- the first is told after what expired
  first : (ack : Ack) → due_now Plain n ≡ Some ack → signer_refusal n.signer ≡ None → Owns k arts (at_time n now) (ack_body Plain ack)
  first ack due free =
      ack_own Plain k arts n now output.effects n.signer.index ack expired on_paths
      (ap (λ (o : Output). o.effects) is
      ∙ ap (λ (es : List Effect). expired ++ (es ++ on_paths))
      (ap (λ (o : Option Ack). ack_effects arts Plain o (signer_refusal n.signer)) due
      ∙ ap (λ (r : Option SendRefused). ack_effects arts Plain (Some ack) r) free))
      (omega (arith, expired_unsigned n.parts.prio (time_after n now))) own

  -- the second last
  second : (ack : Ack) → due_now Paths n ≡ Some ack → second_refusal arts n now ≡ None → Owns k arts (after_plain arts n now) (ack_body Paths ack)
  second ack due free =
      at_its_index k arts n now (ack_body Paths ack) (due_now Plain n) (signer_refusal n.signer)
      (ack_own Paths k arts n now output.effects (after_plain arts n now).signer.index ack (expired ++ plain) []
      (ap (λ (o : Output). o.effects) is
      ∙ ap (λ (es : List Effect). expired ++ (plain ++ es))
      (ap (λ (o : Option Ack). ack_effects arts Paths o (second_refusal arts n now)) due
      ∙ ap (λ (r : Option SendRefused). ack_effects arts Paths (Some ack) r) free)
      ∙ sym (append_assoc expired plain (Signed (arts.spell (ack_body Paths ack)) ∷ [])))
      (omega (
        arith,
        signed_index arts Plain (at_time n now) (due_now Plain n) (signer_refusal n.signer),
        signatures_both expired plain,
        expired_unsigned n.parts.prio (time_after n now),
      )) own)

  -- all that a tick does leaves a node within its bounds
  pub tick_holds : ArtsFit arts n.fixed n.signer → now < 2 ^ 64 → NodeHolds k n → NodeHolds k (after_tick arts n now)
  tick_holds fits small h =
      let due = due_now Plain n in
      let refusal = signer_refusal n.signer in
      acknowledges Paths k arts (after_plain arts n now) (due_now Paths n) (second_refusal arts n now) (still_due arts (at_time n now) due refusal) refl
      (settled_fits arts Plain (at_time n now) due refusal fits) second
      (acknowledges Plain k arts (at_time n now) due refusal refl refl fits first (at_time_holds k n now small h))
