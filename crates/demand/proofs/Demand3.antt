-- Demand 3, whole.
-- Assumes nothing.
use Prim.Native.Nat.{ℕ}
use mathlib.Core.List.{List}
use Rattle.signal.specs.declared.kind.SignalEncoding.{SignalEncoding}
use Rattle.history.specs.History.{History}
use Rattle.demand.specs.Demand3.{Tells, left, join, Demand3}
use Rattle.demand.proofs.LoadsLaws.{Told, told-loads, recorded-told, recorded-answers, recorded-counts}
use Rattle.demand.proofs.JoinLaws.{told-join}
use Rattle.demand.proofs.TellsLaws.{accepted-tells}

pub tells-told : (ks : List SignalEncoding) (h : History) (b : List ℕ) → Tells ks h b → Told ks h b
tells-told _ _ _ (left settings m calls size r) = recorded-told settings m calls size r
tells-told _ _ _ (join ks ls h k a b out size s t e) = told-join ks ls h k a b out size (tells-told ks h a s) (tells-told ls k b t) e

pub demand : Demand3
demand = record {
  loads = λ ks h b t. told-loads ks h b (tells-told ks h b t);
  answers = recorded-answers;
  counts = recorded-counts;
  accepted = accepted-tells;
}
