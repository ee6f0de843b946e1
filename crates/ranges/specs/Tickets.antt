-- The open tickets: where one of a version is, how they close up, and the tables with others.
-- Assumes nothing.
use Rattle.std.specs.Prelude.{cond, List, [], ◌∷◌, ℕ, zero, suc, length, eqb, ltb, Option, Some, None}
use Rattle.tables.specs.declared.Ticket.{Ticket}
use Rattle.tables.specs.declared.Coordinator.{Coordinator}
use Rattle.tables.specs.Tables.{Tables}

-- the index of the first of k tickets that has the version, or k
abbrev pub index_of : ℕ → ℕ → List Ticket → ℕ
index_of v zero ts = 0
index_of v (suc k) [] = suc k
index_of v (suc k) (x ∷ ts) = cond (eqb x.version.0 v) 0 (suc (index_of v k ts))

-- the same of all of these tickets, where one has the version
abbrev pub place_of : ℕ → List Ticket → Option ℕ
place_of v ts = cond (ltb (index_of v (length ts) ts) (length ts)) (Some (index_of v (length ts) ts)) None

-- of the first k tickets, those behind the index j one down
abbrev pub slide : ℕ → ℕ → List Ticket → List Ticket
slide j zero ts = ts
slide j (suc k) [] = []
slide (suc j) (suc k) (x ∷ ts) = x ∷ slide j k ts
slide zero (suc zero) (x ∷ ts) = x ∷ ts
slide zero (suc (suc k)) (x ∷ []) = x ∷ []
slide zero (suc (suc k)) (x ∷ y ∷ ts) = y ∷ slide zero (suc k) (y ∷ ts)

-- the tables with other tickets and another coordinator
abbrev pub with_tickets : Tables → List Ticket → Coordinator → Tables
with_tickets t ts c =
    record { keys = t.keys; values = t.values; rows = t.rows; buckets = t.buckets; tickets = ts; coordinator = c }
