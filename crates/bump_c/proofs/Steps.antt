-- What the proofs of the handles and slots cite.
pub use mathlib.Core.Path.{◌≡◌, refl}
pub use mathlib.Core.List.{[], ◌∷◌}
pub use mir.Syntax.{Args, a_type, dcons, dnil}
pub use mir.MapTy.{inst_fn}
pub use base.Logic.{emp, id⊢}
pub use prog.Wp.{Tables}
pub use types.Kit.{raw, ◌$◌, ◌∵◌, !, qed, by}
pub use contract.Monad.{fact_i}
pub use contract.Running.{tables}
unfoldable pub use contract.Running.{tables_of}
pub use denote.RattleType.{RattleType}
pub use denote.Exit.{yes, no}
pub use denote.Param.{bounded, param}
pub use denote.Param.Laws.{param_laws}
pub use denote.Triple.Spec.{triple_of}
pub use denote.Triple.Table.{entered}
pub use Rattle.core.proofs.ledger.Walks.{hears, hears_last, tells, tells_last}
pub use Rattle.bump_c.specs.One.{IsOne}
