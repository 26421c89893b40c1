-- One receive more, and all calls together.
use Rattle.std.proofs.Common.{◌≡◌, ◌<◌, ℕ, ◌+◌, Bool, true, false, List, [], ◌∷◌, ◌++◌, map, Option, Some, None, refl, sym, ap, subst, ◌∙◌, append_assoc}
use Rattle.std.proofs.Common.{append-nil, arith}
use Rattle.std.proofs.lemmas.List.{length_push, map-append}
use Rattle.std.proofs.lemmas.List.Folds.{find-append}
use Rattle.sp_outside.specs.Calls.{Call, Got, Opened, Received, Sent, Tells}
use Rattle.sp_outside.specs.declared.side.Side.TheVariants.{Client}
use Rattle.sp_service_ask.specs.Asking.{HasNone, is_reply}
use Rattle.sp_service_ask.specs.declared.question.Question.{Question}
use Rattle.sp_service_ask.specs.Listening.{Conversed, Heard, Listened}

pub tells_on : {X : Type 0} (a b c : Option (List X)) (xs ys : List X) → Tells a b xs → Tells b c ys → Tells a c (xs ++ ys)
tells_on a b None xs ys p q = tt
tells_on a None (Some z) xs ys p q = absurd q
tells_on None (Some y) (Some z) xs ys p q = absurd p
tells_on (Some x) (Some y) (Some z) xs ys p q = q ∙ ap (λ l. l ++ ys) p ∙ append_assoc x xs ys

tells_itself : {X : Type 0} (a : Option (List X)) → Tells a a []
tells_itself None = tt
tells_itself (Some x) = sym (append-nil x)

-- the calls of one receive more
calls_on : (heard : List Got) (got : Got) (a b c : Option (List Call)) → Tells a b (map (λ g. Received Client g) heard) → Tells b c (Received Client got ∷ [])
    → Tells a c (map (λ g. Received Client g) (heard ++ got ∷ []))
calls_on heard got a b c p q =
    subst (λ (calls : List Call). Tells a c calls) (sym (map-append (λ (g : Got). Received Client g) heard (got ∷ [])))
    (tells_on a b c (map (λ g. Received Client g) heard) (Received Client got ∷ []) p q)

none_on : (port : ℕ) (front : List ℕ) (heard : List Got) (got : Got) → HasNone port front heard → is_reply port front got ≡ false
    → HasNone port front (heard ++ got ∷ [])
none_on port front heard got none not_one =
    find-append (is_reply port front) heard (got ∷ []) ∙ rw (none, not_one) refl

pub none_listened : (port : ℕ) (front : List ℕ) (w : Option (List Call)) → Listened port front 0 w w None
none_listened port front w = record { heard = []; calls = tells_itself w; ends = (refl, refl) }

pub silent_on : (port : ℕ) (front : List ℕ) (made : ℕ) (a b c : Option (List Call)) → Listened port front made a b None → Heard port front b c None
    → Listened port front (made + 1) a c None
silent_on port front made a b c l h = record {
  heard = l.heard ++ h.got ∷ [];
  calls = calls_on l.heard h.got a b c l.calls h.calls;
  ends = (none_on port front l.heard h.got l.ends.0 h.is, length_push l.heard h.got ∙ omega (arith, l.ends.1));
}

pub reply_on : (port : ℕ) (front reply : List ℕ) (made turns : ℕ) (a b c : Option (List Call)) → made < turns → Listened port front made a b None
    → Heard port front b c (Some reply)
    → Listened port front turns a c (Some reply)
reply_on port front reply made turns a b c few l h = record {
  heard = l.heard ++ h.got ∷ [];
  calls = calls_on l.heard h.got a b c l.calls h.calls;
  ends = (
    record {
      before = l.heard;
      none_before = l.ends.0;
      is_one = subst (λ (got : Got). is_reply port front got ≡ true) h.is.1 h.is.0;
      last = ap (λ (got : Got). l.heard ++ got ∷ []) h.is.1;
    },
    omega (arith, length_push l.heard h.got, l.ends.1),
  );
}

pub conversed : (q : Question) (front : List ℕ) (is_sent : Bool) (a b c d : Option (List Call)) (reply : Option (List ℕ))
    → Tells a b (Opened 0 q.local true ∷ [])
    → Tells b c (Sent Client q.port q.request.now is_sent ∷ []) → Listened q.port front q.turns c d reply → Conversed q front a d reply
conversed q front is_sent a b c d reply opened sent l = record {
  is_sent = is_sent;
  heard = l.heard;
  calls = tells_on a b d (Opened 0 q.local true ∷ []) _ opened (tells_on b c d (Sent Client q.port q.request.now is_sent ∷ []) _ sent l.calls);
  ends = l.ends;
}
