-- An object that is forged is a message with its fields in their ranges, so it is short.
use Rattle.std.proofs.Common.{◌≡◌, ◌≤◌, ℕ, Bool, true, false, List, [], ◌∷◌, length, map, Some, refl, sym, subst, arith}
use Rattle.std.specs.Prelude.{◌==◌, All, if◌then◌else◌}
use Rattle.std.proofs.lemmas.List.Elements.{All-head, All-tail}
use Rattle.std.proofs.lemmas.Option.{same_Some}
use Rattle.sp_base.specs.Spelling.{AreBytes}
use Rattle.sp_base.specs.declared.id.NodeId.{NodeId}
use Rattle.sp_journal.specs.declared.entry.Entry.{Entry}
use Rattle.sp_base.specs.Formats.{by_format}
use Rattle.sp_base.specs.declared.format.TheConstants.{FORMAT_1}
use Rattle.sp_msg.proofs.GoodFields.{good_krel, good_prio, good_rel}
use Rattle.sp_msg.proofs.LongLemmas.{ack_long, epoch_long, kack_long, krel_long, prio_long, rel_long}
use Rattle.sp_msg.specs.Bodies.{HasGoodFieldsIn, encoded_in}
use Rattle.sp_msg.specs.declared.body.Body.{Body}
use Rattle.sp_msg.specs.declared.body.Body.TheVariants as bodies
use Rattle.sp_msg.specs.declared.kept.Kept.{Kept}
use Rattle.sp_node_format.specs.Format.{format_in}
use Rattle.sp_rules.specs.Arrivals.{handled}
use Rattle.sp_rules.specs.Node.{NodeState}
use Rattle.sp_rules.specs.declared.answers.Item.{Item}
use Rattle.sp_runs.specs.Forgery.{forged_object, is_forged}
use Rattle.sp_runs.specs.Settings.{Setting}
use Rattle.sp_schedule_events.specs.declared.event.Event.{Event}
use Rattle.sp_world_steps.proofs.Objects.{IsGood, handled_are}
use Rattle.sp_forgery.specs.declared.judging.TheConstants.{MAX_MESSAGE_BYTES}

-- the greater of two numbers bounds the one of a format
at_most : (format one two most : ℕ) → one ≤ most → two ≤ most → by_format format one two ≤ most
at_most format one two most first second = go (format == FORMAT_1)
  where
    go : (b : Bool) → (if b then one else two) ≤ most
    go true = first
    go false = second

-- the longest message is a priority message of format 2 with the longest payload
body_is_short : (format : ℕ) (body : Body) → HasGoodFieldsIn format body → length (encoded_in format body) ≤ MAX_MESSAGE_BYTES
body_is_short format (bodies.Prio p) good =
    omega (arith, prio_long format p, at_most format 38 62 62 (omega arith) (omega arith), (good_prio format p good).payload)
body_is_short format (bodies.Rel r) good =
    omega (arith, rel_long format r, at_most format 13 29 29 (omega arith) (omega arith), (good_rel format r good).payload)
body_is_short format (bodies.Ack a) good = omega (arith, ack_long format a, at_most format 11 27 27 (omega arith) (omega arith))
body_is_short format (bodies.Weight w) good = omega arith
body_is_short format (bodies.Krel r) good =
    omega (arith, krel_long format r, at_most format 29 61 61 (omega arith) (omega arith), (good_krel format r good).payload)
body_is_short format (bodies.Kack a) good = omega (arith, kack_long format a, at_most format 11 27 27 (omega arith) (omega arith))
body_is_short format (bodies.Epoch e) good = omega (arith, epoch_long format e, at_most format 2 10 10 (omega arith) (omega arith))

module _ (x : Setting) (es : List Event) (js : List Entry) where
  abbrev format : ℕ
  format = x.topology.format

  abbrev is_good : Kept → Type 0
  is_good = IsGood format

  found_is_short : (answered : List (Kept × Item)) (body : List ℕ) → All is_good (map (λ a. a.0) answered)
      → forged_object (format_in format) x es js answered ≡ Some body
      → length body ≤ MAX_MESSAGE_BYTES
  found_is_short [] body good is = absurd (cc)
  found_is_short (a ∷ others) body good is =
      go (is_forged (format_in format) x es js a) refl (found_is_short others body (All-tail is_good a.0 (map (λ b. b.0) others) good))
    where
      go : (t : Bool) → is_forged (format_in format) x es js a ≡ t
          → (forged_object (format_in format) x es js others ≡ Some body → length body ≤ MAX_MESSAGE_BYTES) → length body ≤ MAX_MESSAGE_BYTES
      go true forged later =
          let same = same_Some (encoded_in format a.0.body) body (rw forged at is) in
          subst (λ (bs : List ℕ). length bs ≤ MAX_MESSAGE_BYTES) same (body_is_short format a.0.body (All-head is_good a.0 (map (λ b. b.0) others) good))
      go false other later = later (rw other at is)

  pub forged_is_short : (n : NodeState) (u : NodeId) (bytes body : List ℕ) → AreBytes bytes
      → Some body ≡ forged_object (format_in format) x es js (handled (format_in format) n u bytes).answered
      → length body ≤ MAX_MESSAGE_BYTES
  forged_is_short n u bytes body are is = found_is_short (handled (format_in format) n u bytes).answered body (handled_are format n u bytes are).good (sym is)
