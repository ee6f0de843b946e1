-- Calls of entry points one after another, from fresh tables.
-- Assumes nothing.
use Rattle.std.specs.Prelude.{◌≡◌, true, List, [], ◌∷◌, ◌++◌, map, ℕ, ◌≤◌, length, take, drop, ℤ}
use Rattle.std.proofs.Math.Option as O
use Rattle.std.proofs.Math.Option.{some}
use Rattle.lists.specs.Holds.{All, Pairwise}
use Rattle.lists.specs.Filters.{filter, empty}
use Rattle.model.specs.Keys.{within}
use Rattle.model.specs.Plain.{Pair, between}
use Rattle.model.specs.Calls.{Call, Answer, refused, remove, node, fast, ranged, step, stepped}
use Rattle.model.specs.Model.{Node, set_up, next, answer, after, history, refusal, plain, pair_of, is_present, is, fast_limit, stops, inside, pairs_of}
use Rattle.model.specs.Demands.{Plainly, Kind, OneQueue, Counted, inserted_at, Below, handed_out, finished_in}
use Rattle.tables.specs.Tables.{Tables, Sound, view}
use Rattle.calls.specs.Outcome.{Called}

-- each call, with its answer, on the tables that the one before left
pub data Calls : Tables → List (Call × Answer) → Tables → Type 0 where
  none : {t : Tables} → Calls t [] t
  then : {t t' t'' : Tables} {h : Call × Answer} {hs : List (Call × Answer)} → Called t h.0 h.1 t' → Calls t' hs t'' → Calls t (h ∷ hs) t''

-- sound tables that show the model's state after set-up
pub record Fresh (capacity start : ℕ) (t : Tables) : Type 0 where
  pub sound : Sound t
  pub shows : set_up capacity start ≡ some (view t)

-- what the calls came to is what the model says: sound tables, the model's state, and the model's answers
pub record AsTheModel (t : Tables) (hs : List (Call × Answer)) (t' : Tables) : Type 0 where
  pub sound : Sound t'
  pub state : view t' ≡ after (view t) (map (λ (h : Call × Answer). h.0) hs)
  pub answers : hs ≡ history (view t) (map (λ (h : Call × Answer). h.0) hs)

-- ---- the third duty of Sound: on sound tables, reached or not, a call answers as demand 2 says and leaves sound tables

pub record Dutiful (t : Tables) (c : Call) (a : Answer) (t' : Tables) : Type 0 where
  pub plainly : Plainly (view t)
  pub queue : OneQueue (view t)
  pub kind : refusal (view t) c ≡ O.none → Kind c a
  pub answers : a ≡ answer (view t) c
  pub shows : view t' ≡ next (view t) c
  pub sound : Sound t'

-- ---- Demand 2: the tables show a plain map and the document's lists, and the counts go with the calls and their answers

pub record Demand2 (capacity start : ℕ) (t : Tables) (hs : List (Call × Answer)) (t' : Tables) : Type 0 where
  pub sound : Sound t'
  pub plainly : Plainly (view t')
  pub queue : OneQueue (view t')
  pub counted : Counted capacity start (view t') hs
  -- a further call answers in its own kind, and a removal the node that its key's last insertion answered
  pub kinds : (c : Call) (a : Answer) (t'' : Tables) → Called t' c a t'' → refusal (view t') c ≡ O.none → Kind c a
  pub removes : (k : ℤ) (i : ℕ) (t'' : Tables) → Called t' (remove k) (node i) t'' → inserted_at k 0 hs ≡ i

-- ---- Demand 3: a range of version v, opened on t with the bounds l and h; the calls hs follow, none of which closes it, and lead to t'

-- the map's pairs within its bounds at its opening
abbrev pub list_at : Tables → ℤ → ℤ → List Pair
list_at t l h = between l h (plain (view t))

module _ (t : Tables) (l h : ℤ) (v : ℕ) (hs : List (Call × Answer)) (t' : Tables) where
  -- what its steps have not handed out yet
  abbrev pub to_come : List Pair
  to_come = drop (length (handed_out v hs)) (list_at t l h)

  pub record Demand3 : Type 0 where
    -- what its steps handed out is the first part of the list, each pair once; all of it at finished
    pub first_part : handed_out v hs ++ to_come ≡ list_at t l h
    pub once : Pairwise Below (list_at t l h)
    pub finished : finished_in v hs ≡ true → handed_out v hs ≡ list_at t l h
    -- a further step hands out the next pairs, and says finished exactly when none is left then; one without room is refused
    pub further : (room : ℕ) → 1 ≤ room → (a : Answer) (t'' : Tables) → Called t' (step v room) a t'' → a ≡ stepped (take room to_come) (empty (drop room to_come))
    pub no_room : (a : Answer) (t'' : Tables) → Called t' (step v 0) a t'' → a ≡ refused 8
    -- a fast range at the opening gives the list
    pub fastly : (room : ℕ) → length (list_at t l h) ≤ fast_limit → length (list_at t l h) ≤ room → (a : Answer) (t'' : Tables) → Called t (fast l h room) a t'' → a ≡ ranged (list_at t l h)
    -- no node of the list is unlinked: they are there in their order, and each is linked once, with its pair
    pub nodes : pairs_of (inside l h (stops v (view t).order)) ≡ list_at t l h
    pub order : inside l h (stops v (view t').order) ≡ inside l h (stops v (view t).order)
    pub linked :
        All (λ (n : Node). is_present n ≡ true → within l h n.key ≡ true → map pair_of (filter (is n.number) (view t').order) ≡ pair_of n ∷ [])
        (view t).order
