pub mod ExplainCall
