-- Whether an object is signed, and that its fields are in their ranges: what is read of bytes is spelled by them.
use Rattle.std.proofs.Common.{◌≡◌, ◌∙◌, ℕ, Bool, true, false, List, Option, None, Some, Ok, refl, sym, ap, subst}
use Rattle.sp_base.specs.Spelling.{AreBytes}
use Rattle.sp_hss.proofs.Decision.{decided}
use Rattle.sp_hss.specs.Decision.{is_valid}
use Rattle.sp_msg.proofs.ReadIsEncoded.{read_is_encoded}
use Rattle.sp_msg.specs.Bodies.{encoded_in, read_body_in}
use Rattle.sp_msg.specs.Views.{signer_of}
use Rattle.sp_msg.specs.declared.body.Body.{Body}
use Rattle.sp_msg.specs.declared.kept.Kept.{Kept}
use Rattle.sp_node_format.specs.Format.{format_in}
use Rattle.sp_rules.specs.Changes.{FitsAFormat}
use Rattle.sp_rules.specs.Parts.{Fixed, is_signed_by}
use Rattle.sp_sign.specs.Checks.{IsSigned}
use Rattle.sp_topology.specs.Keys.{key_of}
use Rattle.sp_topology.specs.declared.topology.NodeKey.{NodeKey}
use Rattle.sp_node_arrivals.specs.Signed.{is_right}

pub good_fields : (format : ℕ) (bytes : List ℕ) (body : Body) → AreBytes bytes → read_body_in format bytes ≡ Ok body → FitsAFormat body
good_fields format bytes body are e = (format, (read_is_encoded format bytes body are e).1)

signed : (format : ℕ) (key : Option (List ℕ)) (message signature : List ℕ) → IsSigned key message signature
    → is_signed_by (format_in format) key message signature ≡ true
signed format None message signature is = absurd is
signed format (Some key) message signature is = (decided key message signature).1 is

unsigned : (format : ℕ) (key : Option (List ℕ)) (message signature : List ℕ) → (IsSigned key message signature → ⊥)
    → is_signed_by (format_in format) key message signature ≡ false
unsigned format None message signature isnt = refl
unsigned format (Some key) message signature isnt = go (is_valid key message signature) refl
  where
    go : (t : Bool) → is_valid key message signature ≡ t → is_valid key message signature ≡ false
    go true is = absurd (isnt ((decided key message signature).0 is))
    go false is = is

-- what the bytes say of a signature, the message says
pub is_signed : (format : ℕ) (key : Option (List ℕ)) (bytes signature : List ℕ) (body : Body) → AreBytes bytes → read_body_in format bytes ≡ Ok body
    → IsSigned key bytes signature → true ≡ is_signed_by (format_in format) key (encoded_in format body) signature
is_signed format key bytes signature body are e is =
    sym (signed format key (encoded_in format body) signature
    (subst (λ (m : List ℕ). IsSigned key m signature) (read_is_encoded format bytes body are e).0 is))

pub isnt_signed : (format : ℕ) (key : Option (List ℕ)) (bytes signature : List ℕ) (body : Body) → AreBytes bytes → read_body_in format bytes ≡ Ok body
    → (IsSigned key bytes signature → ⊥) → false ≡ is_signed_by (format_in format) key (encoded_in format body) signature
isnt_signed format key bytes signature body are e isnt =
    sym (unsigned format key (encoded_in format body) signature
    (λ is. isnt (subst (λ (m : List ℕ). IsSigned key m signature) (sym (read_is_encoded format bytes body are e).0) is)))

-- the keys and the format are those of the node's topology
pub right_of : (f : Fixed) (format : ℕ) (keys : List NodeKey) (o : Kept) → format ≡ f.topology.format → keys ≡ f.topology.nodes
    → is_signed_by (format_in format) (key_of (signer_of o.body).0 keys) (encoded_in format o.body) o.signature ≡ is_right f o
right_of f format keys o of known =
    ap (λ (ks : List NodeKey). is_signed_by (format_in format) (key_of (signer_of o.body).0 ks) (encoded_in format o.body) o.signature) known
    ∙ ap (λ (n : ℕ). is_signed_by (format_in n) (key_of (signer_of o.body).0 f.topology.nodes) (encoded_in n o.body) o.signature) of
