-- How many bytes a message has in each format.
use Rattle.std.proofs.Common.{◌≡◌, ℕ, ◌+◌, ◌==◌, true, false, Bool, [], ◌∷◌, length, refl, arith}
use Rattle.sp_base.specs.Formats.{by_format}
use Rattle.sp_base.specs.declared.format.TheConstants.{FORMAT_1}
use Rattle.sp_msg.specs.declared.body.Ack.{Ack}
use Rattle.sp_msg.specs.declared.body.Body.TheVariants as bodies
use Rattle.sp_msg.specs.declared.body.Epoch.{Epoch}
use Rattle.sp_msg.specs.declared.body.Kack.{Kack}
use Rattle.sp_msg.specs.declared.body.Krel.{Krel}
use Rattle.sp_msg.specs.declared.body.Prio.{Prio}
use Rattle.sp_msg.specs.declared.body.Rel.{Rel}
use Rattle.sp_msg.specs.Bodies.{encoded_in, flow_fields}
use Rattle.sp_msg.specs.Fields.{spelled}

pub flow_long : (format a b c d e : ℕ) → length (spelled (flow_fields format) (a ∷ b ∷ c ∷ d ∷ e ∷ [])) ≡ by_format format 10 26
flow_long format a b c d e = go (format == FORMAT_1) refl
  where
    go : (one : Bool) → (format == FORMAT_1) ≡ one → length (spelled (flow_fields format) (a ∷ b ∷ c ∷ d ∷ e ∷ [])) ≡ by_format format 10 26
    go true is = rw is refl
    go false is = rw is refl

-- a priority message has 38 bytes under format 1 and 62 under format 2, and its payload
pub prio_long : (format : ℕ) (p : Prio) → length (encoded_in format (bodies.Prio p)) ≡ by_format format 38 62 + length p.payload
prio_long format p = go (format == FORMAT_1) refl
  where
    go : (one : Bool) → (format == FORMAT_1) ≡ one → length (encoded_in format (bodies.Prio p)) ≡ by_format format 38 62 + length p.payload
    go true is = rw is (omega arith)
    go false is = rw is (omega arith)

-- a reliable message has 13 bytes under format 1 and 29 under format 2, and its payload
pub rel_long : (format : ℕ) (r : Rel) → length (encoded_in format (bodies.Rel r)) ≡ by_format format 13 29 + length r.payload
rel_long format r = go (format == FORMAT_1) refl
  where
    go : (one : Bool) → (format == FORMAT_1) ≡ one → length (encoded_in format (bodies.Rel r)) ≡ by_format format 13 29 + length r.payload
    go true is = rw is (omega arith)
    go false is = rw is (omega arith)

-- an acknowledgement has 11 bytes under format 1 and 27 under format 2
pub ack_long : (format : ℕ) (a : Ack) → length (encoded_in format (bodies.Ack a)) ≡ by_format format 11 27
ack_long format a = go (format == FORMAT_1) refl
  where
    go : (one : Bool) → (format == FORMAT_1) ≡ one → length (encoded_in format (bodies.Ack a)) ≡ by_format format 11 27
    go true is = rw is refl
    go false is = rw is refl

-- a message over paths has 29 bytes under format 1 and 61 under format 2, and its payload
pub krel_long : (format : ℕ) (r : Krel) → length (encoded_in format (bodies.Krel r)) ≡ by_format format 29 61 + length r.payload
krel_long format r = go (format == FORMAT_1) refl
  where
    go : (one : Bool) → (format == FORMAT_1) ≡ one → length (encoded_in format (bodies.Krel r)) ≡ by_format format 29 61 + length r.payload
    go true is = rw is (omega arith)
    go false is = rw is (omega arith)

-- an acknowledgement over paths has 11 bytes under format 1 and 27 under format 2
pub kack_long : (format : ℕ) (a : Kack) → length (encoded_in format (bodies.Kack a)) ≡ by_format format 11 27
kack_long format a = go (format == FORMAT_1) refl
  where
    go : (one : Bool) → (format == FORMAT_1) ≡ one → length (encoded_in format (bodies.Kack a)) ≡ by_format format 11 27
    go true is = rw is refl
    go false is = rw is refl

-- an Epoch object has 2 bytes under format 1 and 10 under format 2
pub epoch_long : (format : ℕ) (e : Epoch) → length (encoded_in format (bodies.Epoch e)) ≡ by_format format 2 10
epoch_long format e = go (format == FORMAT_1) refl
  where
    go : (one : Bool) → (format == FORMAT_1) ≡ one → length (encoded_in format (bodies.Epoch e)) ≡ by_format format 2 10
    go true is = rw is refl
    go false is = rw is refl
