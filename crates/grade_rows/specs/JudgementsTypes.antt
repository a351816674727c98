-- Types of judgements that callers name, passed on.
pub use Rattle.judgements.specs.declared.case_judgements.CaseJudgement
pub use Rattle.judgements.specs.declared.cases.AskedJudging
pub use Rattle.judgements.specs.declared.cases.Case
pub use Rattle.judgements.specs.declared.verdict_kinds.VerdictKind
