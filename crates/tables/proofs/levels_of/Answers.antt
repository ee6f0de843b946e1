-- `tables::levels_of` meets its contract.
use mathlib.Core.Path.{sym, ap}
use Rattle.sizes.specs.Sizes.{size_of}
use Rattle.tables.specs.Tables.{levels_of}
use Rattle.tables.proofs.Capacities.{levels_none}
use Rattle.tables.proofs.levels_of.Goals as goal

pub returns-in-4096 : goal.returns-in-4096
unfolding levels_of size_of
returns-in-4096 c = sym (ap levels_of c.in-4096.is)

pub returns-in-2048 : goal.returns-in-2048
unfolding levels_of size_of
returns-in-2048 c = sym (ap levels_of c.in-2048.is)

pub returns-in-1024 : goal.returns-in-1024
unfolding levels_of size_of
returns-in-1024 c = sym (ap levels_of c.in-1024.is)

pub returns-in-512 : goal.returns-in-512
unfolding levels_of size_of
returns-in-512 c = sym (ap levels_of c.in-512.is)

pub returns-in-256 : goal.returns-in-256
unfolding levels_of size_of
returns-in-256 c = sym (ap levels_of c.in-256.is)

pub returns-in-128 : goal.returns-in-128
unfolding levels_of size_of
returns-in-128 c = sym (ap levels_of c.in-128.is)

pub returns-in-64 : goal.returns-in-64
unfolding levels_of size_of
returns-in-64 c = sym (ap levels_of c.in-64.is)

pub returns-in_default : goal.returns-in_default
returns-in_default c =
    let r = c.in_default.in_default-own.rest in
    sym (levels_none _ r.1 r.0.1 r.0.0.1 r.0.0.0.1 r.0.0.0.0.1 r.0.0.0.0.0.1 r.0.0.0.0.0.0.1)
