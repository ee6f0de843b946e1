-- Demands 2 and 3 of the tables: every sequence of calls from fresh tables is the model's.
-- Assumes nothing.
use mathlib.Core.Path.{◌≡◌, refl, sym, ap, ap₂, ◌∙◌, subst}
use mathlib.Core.Bool.{false}
use mathlib.Core.List.{List, ◌∷◌, map}
use Prim.Native.Nat.{ℕ}
use lib.ListN.{take, drop}
use lib.IntN.{ℤ}
use Rattle.lists.specs.Holds.{All}
use Rattle.lists.specs.Filters.{empty}
use Rattle.lists.proofs.Holding.{all_map}
use Rattle.model.specs.Calls.{Call, Answer, remove, node, fast, «open», opened, step, stepped}
use Rattle.model.specs.Model.{State, next, answer, after, history}
use Rattle.model.specs.Demands.{Always, Plainly, Kind, OneQueue, Counted, inserted_at, closes, Promise}
use Rattle.model.proofs.PlainMap.{plainly}
use Rattle.model.proofs.OwnKinds.{kinds}
use Rattle.model.proofs.Lists.{one_queue}
use Rattle.model.proofs.Demands.{demand2}
use Rattle.model.proofs.Snapshot.{demand3}
use Rattle.tables.specs.Tables.{Tables, Sound, Met, view}
use Rattle.calls.specs.Outcome.{Called}
use Rattle.calls.specs.Histories.{Calls, none, then, Fresh, AsTheModel, Dutiful, Demand2, to_come, Demand3}

-- LAW: on sound tables a call meets the model
pub meets : (t : Tables) (c : Call) (a : Answer) (t' : Tables) → Sound t → Called t c a t' → Met t t' c a
meets t c a t' S k = k.met (k.says.told S)

-- LAW: calls one after another, on sound tables, are the model's
pub as_the_model : {t t' : Tables} {hs : List (Call × Answer)} → Sound t → Calls t hs t' → AsTheModel t hs t'
unfolding after history
as_the_model S none = record { sound = S; state = refl; answers = refl }
as_the_model {t} S (then {t' = t'} {h = h} {hs = hs} k ks) =
    let cs = map (λ (x : Call × Answer). x.0) hs in
    let m = meets t h.0 h.1 t' S k in
    let r = as_the_model m.sound ks in
    let e : next (view t) h.0 ≡ view t' = ap (λ (o : State × Answer). o.0) m.model in
    let f : answer (view t) h.0 ≡ h.1 = ap (λ (o : State × Answer). o.1) m.model in
    record {
      sound = r.sound;
      state = r.state ∙ ap (λ s. after s cs) (sym e);
      answers = ap₂ {C = List (Call × Answer)} (λ a l. (h.0, a) ∷ l) (sym f) (r.answers ∙ ap (λ s. history s cs) (sym e));
    }

-- LAW: what always holds of the model holds of the state that the tables show, after any calls from fresh tables
pub always : (P : State → Type 0) → Always P → (capacity start : ℕ) (t t' : Tables) (hs : List (Call × Answer)) → Fresh capacity start t → Calls t hs t' → P (view t')
always P A capacity start t t' hs f k =
    let r = as_the_model f.sound k in
    rw r.state (A capacity start (view t) f.shows (map (λ (h : Call × Answer). h.0) hs))

-- LAW: on any sound tables a call answers as demand 2 says, and leaves sound tables
pub dutiful : (t : Tables) (c : Call) (a : Answer) (t' : Tables) → Sound t → Called t c a t' → Dutiful t c a t'
dutiful t c a t' S k =
    let m = meets t c a t' S k in
    let e : answer (view t) c ≡ a = ap (λ (o : State × Answer). o.1) m.model in
    record {
      plainly = plainly (view t) S.well;
      queue = one_queue (view t) S.well;
      kind = λ f. subst (Kind c) e (kinds (view t) S.well c f);
      answers = sym e;
      shows = sym (ap (λ (o : State × Answer). o.0) m.model);
      sound = m.sound;
    }

-- the answer on tables that calls led to
answered_after : {t t' : Tables} {hs : List (Call × Answer)} (c : Call) (a : Answer) (t'' : Tables) → AsTheModel t hs t' → Called t' c a t''
    → a ≡ answer (after (view t) (map (λ (h : Call × Answer). h.0) hs)) c
answered_after {t' = t'} c a t'' r k = (dutiful t' c a t'' r.sound k).answers ∙ ap (λ s. answer s c) r.state

-- LAW: demand 2, of every sequence of calls from fresh tables
pub tables_demand2 : (capacity start : ℕ) (t t' : Tables) (hs : List (Call × Answer)) → Fresh capacity start t → Calls t hs t' → Demand2 capacity start t hs t'
tables_demand2 capacity start t t' hs f k =
    let r = as_the_model f.sound k in
    let cs = map (λ (h : Call × Answer). h.0) hs in
    record {
      sound = r.sound;
      plainly = always Plainly demand2.plainly capacity start t t' hs f k;
      queue = always OneQueue demand2.queue capacity start t t' hs f k;
      counted =
          subst (λ (s : State). Counted capacity start s hs) (sym r.state)
          (subst (λ (l : List (Call × Answer)). Counted capacity start (after (view t) cs) l) (sym r.answers) (demand2.counts capacity start (view t) f.shows cs));
      kinds = λ c a t'' q. (dutiful t' c a t'' r.sound q).kind;
      removes = λ k i t'' q. ap (inserted_at k 0) r.answers ∙ demand2.removes capacity start (view t) f.shows cs k i (sym (answered_after (remove k) (node i) t'' r q));
    }

-- LAW: demand 3, of a range opened after any calls from fresh tables
module _ (capacity start : ℕ) (t t₁ t₂ t₃ : Tables) (before hs : List (Call × Answer)) (l h : ℤ) (v : ℕ)
    (f : Fresh capacity start t) (k : Calls t before t₁) (o : Called t₁ («open» l h) (opened v) t₂) (ks : Calls t₂ hs t₃)
    (stays : All (λ (x : Call × Answer). closes v x.0 ≡ false) hs) where
  abbrev cs : List Call
  cs = map (λ (x : Call × Answer). x.0) hs

  opened_on : Dutiful t₁ («open» l h) (opened v) t₂
  opened_on = dutiful t₁ («open» l h) (opened v) t₂ (as_the_model f.sound k).sound o

  -- the model's promise, of what the tables show
  promised : Promise (view t₁) l h v (view t₂) cs
  promised =
      subst (λ (s : State). Promise (view t₁) l h v s cs) (sym opened_on.shows)
      (always (λ (s : State). (l h : ℤ) (v : ℕ) → answer s («open» l h) ≡ opened v → (calls : List Call) → All (λ (c : Call). closes v c ≡ false) calls → Promise s l h v (next s («open» l h)) calls)
      demand3 capacity start t t₁ before f k l h v (sym opened_on.answers) cs (all_map (λ (c : Call). closes v c ≡ false) (λ (x : Call × Answer). x.0) hs stays))

  -- what a further step hands out after these calls
  abbrev gives : ℕ → List (Call × Answer) → Answer
  gives room xs = stepped (take room (to_come t₁ l h v xs t₃)) (empty (drop room (to_come t₁ l h v xs t₃)))

  pub tables_demand3 : Demand3 t₁ l h v hs t₃
  tables_demand3 =
      let r = as_the_model opened_on.sound ks in
      record {
        first_part = rw r.answers promised.first_part;
        once = promised.once;
        finished = rw r.answers promised.finished;
        further = λ room e a t₄ c. answered_after (step v room) a t₄ r c ∙ (promised.further room e ∙ ap (gives room) (sym r.answers));
        no_room = λ a t₄ c. answered_after (step v 0) a t₄ r c ∙ promised.no_room;
        fastly = λ room e g a t₄ c. (dutiful t₁ (fast l h room) a t₄ (as_the_model f.sound k).sound c).answers ∙ promised.fastly room e g;
        nodes = promised.nodes;
        order = rw r.state promised.order;
        linked = rw r.state promised.linked;
      }
