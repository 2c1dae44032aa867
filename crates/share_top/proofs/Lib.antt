pub mod Lines
pub mod SetupLaws
pub mod SessionLaws
pub mod PipeLaws
pub mod FreshLaws
pub mod ServeLaws
pub mod CommandLaws
pub mod ServeCommandLaws
