-- The lent form of each call: its outcome on sixteen tickets, and its refusal where there are not sixteen tickets.
-- Assumes nothing.
use Rattle.std.specs.Prelude.{Result, Err, Some, None, ⊤, Option}
use Rattle.sizes.specs.declared.Node.{Node}
use Rattle.sizes.specs.declared.Size.{Size}
use Rattle.model.specs.declared.Refusal.{Refusal}
use Rattle.model.specs.declared.Refusal.TheVariants.{NotSound, NoSuchCapacity}
use Rattle.std.specs.Prelude.{Bool, ◌≡◌, List, ℕ, ℤ}
use Rattle.sizes.specs.declared.Version.{Version}
use Rattle.sizes.specs.Sizes.{size_of}
use Rattle.model.specs.declared.Tallied.{Tallied}
use Rattle.model.specs.declared.Handed.{Handed}
use Rattle.model.specs.declared.Swept.{Swept}
use Rattle.model.specs.declared.Stepped.{Stepped}
use Rattle.tables.specs.Tables.{Tables}
use Rattle.soundness.specs.SetUp.{SetUpBy}
use Rattle.calls.specs.Entries as E
use Rattle.batch.specs.declared.End.{End}
use Rattle.batch.specs.Lists.{Input, Output, Ran, input_of}
use Rattle.batch.specs.declared.Batch.{Batch}
use Rattle.lent.specs.Lends.{Lends}

-- set-up refuses a capacity that is not in the table first
abbrev pub refusal_of : Option Size → Result ⊤ Refusal
refusal_of (Some size) = Err NotSound
refusal_of None = Err NoSuchCapacity

-- set-up; `n` here and below is how many tickets are lent
abbrev pub SetsUp : ℕ → ℕ → Version → Tables → Tables → Result ⊤ Refusal → Type 0
SetsUp n capacity start = Lends n (λ t t' a. SetUpBy t t' capacity start a) (refusal_of (size_of capacity))

-- lookup
abbrev pub Looks : ℕ → ℤ → Tables → Tables → Result ℤ Refusal → Type 0
Looks n k = Lends n (λ t t' a. E.Looks t t' k a) (Err NotSound)

-- ceil, floor, succ and pred, by their direction and whether the key itself counts
abbrev pub Nears : ℕ → ℤ → ℕ → Bool → Tables → Tables → Result ℤ Refusal → Type 0
Nears n k d at = Lends n (λ t t' a. E.Nears t t' k d at a) (Err NotSound)

-- tally
abbrev pub Tallies : ℕ → Tables → Tables → Result Tallied Refusal → Type 0
Tallies n = Lends n (λ t t' a. E.Tallies t t' a) (Err NotSound)

-- insert
abbrev pub Inserts : ℕ → ℤ → ℤ → ℕ → Tables → Tables → Result Node Refusal → Type 0
Inserts n k v coin = Lends n (λ t t' a. E.Inserts t t' k v coin a) (Err NotSound)

-- remove
abbrev pub Removes : ℕ → ℤ → Tables → Tables → Result Node Refusal → Type 0
Removes n k = Lends n (λ t t' a. E.Removes t t' k a) (Err NotSound)

-- hand over
abbrev pub HandsOver : ℕ → ℕ → Tables → Tables → Result Handed Refusal → Type 0
HandsOver n node = Lends n (λ t t' a. E.HandsOver t t' node a) (Err NotSound)

-- sweep
abbrev pub Sweeps : ℕ → Tables → Tables → Result Swept Refusal → Type 0
Sweeps n = Lends n (λ t t' a. E.Sweeps t t' a) (Err NotSound)

-- open
abbrev pub Opens : ℕ → ℤ → ℤ → Tables → Tables → Result Version Refusal → Type 0
Opens n l h = Lends n (λ t t' a. E.Opens t t' l h a) (Err NotSound)

-- close
abbrev pub Closes : ℕ → ℕ → Tables → Tables → Result ℕ Refusal → Type 0
Closes n v = Lends n (λ t t' a. E.Closes t t' v a) (Err NotSound)

-- step: the pair buffers are lent too
abbrev pub Steps : ℕ → ℕ → E.Lent → E.Lent → Result Stepped Refusal → Type 0
Steps n v =
    Lends n (λ x y a. E.Steps x.tables x.keys_out x.values_out y.tables y.keys_out y.values_out v a) (Err NotSound)

-- fast range: it leaves the tables; what the call on sixteen says speaks of the buffers alone
abbrev pub Ranges : ℕ → ℤ → ℤ → E.Lent → E.Lent → Result ℕ Refusal → Type 0
Ranges n l h =
    Lends n (λ x y a. (y.tables ≡ x.tables) × E.Ranges x.tables x.keys_out x.values_out y.keys_out y.values_out l h a) (Err NotSound)

-- ---- a list of calls

-- what a list is lent: the tables, room for answers, and the pair buffers
pub record Rooms : Type 0 where
  pub tables : Tables
  pub answers : List ℤ
  pub keys_out : List ℤ
  pub values_out : List ℤ

-- these parts as one
abbrev pub rooms : Tables → List ℤ → List ℤ → List ℤ → Rooms
rooms t answers ks vs = record { tables = t; answers = answers; keys_out = ks; values_out = vs }

-- the batch's input
abbrev pub input_from : Rooms → List ℕ → Bool → Input
input_from x bytes more = input_of x.tables bytes more x.answers x.keys_out x.values_out

-- the batch's output
abbrev pub output_from : Rooms → Batch → Output
output_from x r =
    record {
      end = r.end;
      used = r.used;
      calls = r.calls;
      pairs = r.pairs;
      tables = x.tables;
      answers = x.answers;
      keys = x.keys_out;
      values = x.values_out;
    }

-- nothing was run
abbrev pub not_run : Batch
not_run = record { end = End.Refused NotSound; used = 0; calls = 0; pairs = 0 }

-- a list of calls as schedule bytes, with whether more may follow
abbrev pub Runs : ℕ → List ℕ → Bool → Rooms → Rooms → Batch → Type 0
Runs n bytes more = Lends n (λ x y a. Ran (input_from x bytes more) (output_from y a)) not_run
