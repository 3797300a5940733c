-- What the theory of precedence sees of a run, and stamps as its keys. Its laws are proved in ServerLaws and ClientLaws, and put together in OrderLaws.
-- Assumes nothing.
use Prim.Native.Nat.{ℕ, suc}
use mathlib.Core.Bool.{true, ◌&&◌}
use mathlib.Core.Path.{◌≡◌, refl}
use mathlib.Core.List.{List, Memᴰ}
use mathlib.Core.Option.{some}
use lib.Dec.{leb}
use Rattle.precedence.specs.Laws as PL
use Rattle.area.specs.Area.{pick}
use Rattle.frame.specs.declared.Stamp.{Stamp}
use Rattle.frame.specs.declared.Party.{Party}
use Rattle.frame.specs.declared.Party.TheVariants as A
use Rattle.group_rules.specs.Coded.{digests_of}
use Rattle.frame.specs.Messages.{Entry, Offer, send, get_stamp, ack, ask_read, stamp_is, block_is, value_is, message}
use Rattle.frame.specs.Stamps.{zero_stamp}
use Rattle.frame.proofs.Sizes.{Small}
use Rattle.server_rules.specs.State.{reader_of, present_entry}
use Rattle.server_rules.specs.Steps as S
use Rattle.client_rules.specs.declared.Phase.TheVariants as F
use Rattle.client_rules.specs.Rows.{Found, Kept, row_view}
use Rattle.client_rules.specs.State.{heard_of}
use Rattle.client_rules.proofs.CallFacts.{time_of}
use Rattle.steps.proofs.Keys.{key, key_time}
use Rattle.runs.specs.Events.{At, Accepts, StopsRead, EndsWrite}
use Rattle.runs.specs.World.{Setup, Call, ClientSide, initial_of, run}
use Rattle.runs.proofs.Broadcasts.{Agreed, server_at, SentMessage}
use Rattle.runs.proofs.Roomy.{roomy}
use Rattle.runs.proofs.Assumed.{Assumed}

module _ (Z : Setup) (G : Assumed Z) (M : Small Z.g) where
  open Z use {H, g, initial_value, faulty_server, faulty_client}

  -- a stamp with its digest list
  abbrev pub Stamped : Type 0
  Stamped = Stamp × List ℕ

  abbrev pub stamps : PL.Stamps Agreed Stamped
  stamps = record {
    key = λ v. key v.0;
    time = λ v. v.0.time;
    sent = λ a. a.0;
    stamped = λ a c q. (record { time = suc a.0; writer = c; sequence = q }, a.1);
    initial = (zero_stamp, digests_of H g initial_value);
    key_time = λ x y l. key_time x.0 y.0 l;
    time_stamped = λ a c q. refl;
  }

  abbrev pub client_at : List Call → ℕ → ClientSide
  client_at ks c = (run Z ks).clients c

  -- what a server 1 to n shows; for any other number the views show the start
  abbrev pub shown : List Call → ℕ → Stamped
  shown ks j = ((server_at Z G M ks j).server.stamp, (present_entry g (server_at Z G M ks j).server.stamp (server_at Z G M ks j).area (initial_of Z j)).digests)

  abbrev pub views : PL.Views Call Agreed Stamped
  views = record {
    present = λ ks j. pick (leb 1 j && leb j g.n) (shown ks j) (zero_stamp, digests_of H g initial_value);
    listening = λ ks j c. leb 1 c && (leb c 8 && (reader_of (server_at Z G M ks j).server c).listening);
    newest = λ ks j c. (reader_of (server_at Z G M ks j).server c).sequence;
    noted = λ ks j c. key (reader_of (server_at Z G M ks j).server c).noted;
    reads = λ ks c. (client_at ks c).client.reads;
    writes = λ ks c. (client_at ks c).client.writes;
    SentAck = λ ks j c q. SentMessage Z G M ks (A.Server j) (A.Client c) (message c q ack);
    SentValue = λ ks j c q v. (e : Entry) × (e.digests ≡ v.1) × SentMessage Z G M ks (A.Server j) (A.Client c) (message c q (value_is v.0 e));
    SentStamp = λ ks j c q T. SentMessage Z G M ks (A.Server j) (A.Client c) (message c q (stamp_is T));
    SentRead = λ ks c q. (b : Party) × SentMessage Z G M ks (A.Client c) b (message c q ask_read);
    SentGetStamp = λ ks c q. (b : Party) × SentMessage Z G M ks (A.Client c) b (message c q get_stamp);
    SentTime = λ ks c q T. (b : Party) × (o : Offer) × (o.time ≡ T) × SentMessage Z G M ks (A.Client c) b (message c q (block_is send o));
    KeptAck = λ ks c j. ((client_at ks c).client.phase ≡ F.Acking) × (heard_of (client_at ks c).client j ≡ true);
    KeptValue = λ ks c j v. ((client_at ks c).client.phase ≡ F.Reading)
        × (k : Kept) × (k.stamp ≡ v.0) × (k.entry.digests ≡ v.1) × Memᴰ k (row_view g (client_at ks c).client (roomy (client_at ks c).area) j);
    KeptStamp = λ ks c j T. ((client_at ks c).client.phase ≡ F.Asking) × (time_of (client_at ks c).client j ≡ some T);
    Accepted = λ ks j c q a. (x : S.Write) × (p : ℕ) × At (Accepts Z j x) ks p × (x.client ≡ c) × (x.sequence ≡ q) × (x.time ≡ a.0)
        × (x.entry.digests ≡ a.1);
    WriteEnded = λ ks c q. (p : ℕ) × At (EndsWrite Z c q) ks p;
    ReadEnded = λ ks c q v. (x : Found) × (p : ℕ) × At (StopsRead Z c q x) ks p × (x.stamp ≡ v.0) × (x.digests ≡ v.1);
  }
