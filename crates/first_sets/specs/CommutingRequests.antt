-- Definitions of commuting_requests that callers name, passed on.
pub use Rattle.commuting_requests.specs.RequestSteps
