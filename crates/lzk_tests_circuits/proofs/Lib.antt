pub mod WastefulLaws
